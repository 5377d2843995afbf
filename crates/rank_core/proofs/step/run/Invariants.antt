use Rattle.rank_core.proofs.Prelude.{◌≡◌, map, drop, AllByRecursion, IsCheckedAssignment, program_of, assignment_of, IsMemoryInRange, IsShapedAssignment, run, memory}
use Rattle.rank_core.proofs.step.run.Given as goal

abbrev pub invariant-loop-assign : goal.invariant-loop-assign
invariant-loop-assign l =
    IsMemoryInRange (program_of l.transaction) (memory l.current l.keeps l.eaches) × AllByRecursion (IsCheckedAssignment (program_of l.transaction)) (map assignment_of (drop l.assign-index l.assigns)) × AllByRecursion (IsShapedAssignment (program_of l.transaction)) (map assignment_of (drop l.assign-index l.assigns)) × (run (program_of l.transaction) l.env (map assignment_of (drop l.assign-index l.assigns)) (memory l.current l.keeps l.eaches) ≡ run (program_of l.transaction) l.env (map assignment_of l.initial.assigns) (memory l.initial.current l.initial.keeps l.initial.eaches))
