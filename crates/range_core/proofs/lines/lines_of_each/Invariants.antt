use Rattle.range_core.proofs.Prelude.{map, take, entry, program_of, assignment_of, AreLeast}
use Rattle.range_core.proofs.lines.lines_of_each.Given as goal

abbrev pub invariant-loop-assign : goal.invariant-loop-assign
invariant-loop-assign l =
    AreLeast (map (entry (program_of l.transaction)) (map assignment_of (take l.assign-index l.assigns))) l.lines
