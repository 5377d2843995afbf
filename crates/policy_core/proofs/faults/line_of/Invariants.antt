use Rattle.policy_core.proofs.Prelude.{drop, entries_of, line_at}
use Rattle.policy_core.proofs.Lines.{StandsAt}
use Rattle.policy_core.proofs.faults.line_of.Given as goal

abbrev pub invariant-loop-line : goal.invariant-loop-line
invariant-loop-line l = StandsAt (entries_of (drop l.line-index l.lines)) l.left (line_at (entries_of l.lines) l.node)
