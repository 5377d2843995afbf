use Rattle.rank_core.proofs.Prelude.{◌≡◌, map, take, assignment_of, assignment}
use Rattle.rank_core.proofs.builtins.assigns.Given as goal

abbrev pub invariant-loop-line : goal.invariant-loop-line
invariant-loop-line l = map assignment_of l.assigns.items ≡ map assignment (take l.line-index l.lines)
