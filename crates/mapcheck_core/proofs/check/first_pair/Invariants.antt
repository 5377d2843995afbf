use Rattle.mapcheck_core.proofs.Prelude.{ℕ, None, ◌<◌, topology, nodes, IsFirstBroken, span_at}
use Rattle.mapcheck_core.proofs.check.first_pair.Given as goal

abbrev pub invariant-loop-first : goal.invariant-loop-first
invariant-loop-first l = (a : ℕ) → a < l.first → IsFirstBroken l.given a (span_at (topology l.topo) a) (nodes (topology l.topo)) None
