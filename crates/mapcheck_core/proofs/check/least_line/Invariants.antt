use Rattle.mapcheck_core.proofs.Prelude.{topology, IsLeast, breaks_at}
use Rattle.mapcheck_core.proofs.check.least_line.Given as goal

abbrev pub invariant-loop-number : goal.invariant-loop-number
invariant-loop-number l = IsLeast (breaks_at l.demand (topology l.topo) (topology l.middle) l.given) l.given.lines l.number l.least
