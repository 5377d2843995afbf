-- The memory and the assignments of a step, as the code represents them.
use Rattle.std.specs.Prelude.{ℕ, List, map}
use Rattle.std.specs.List.{AllByRecursion}
use Rattle.rank_defs.specs.declared.environment.Env.{Env}
use Rattle.rank_defs.specs.declared.transaction.Assign.{Assign}
use Rattle.rank_defs.specs.declared.transaction.Transaction.{Transaction}
use Rattle.rank_defs.specs.Programs.{program_of, assignment_of}
use Rattle.rank_defs.specs.States.{Memory}
use Rattle.rank_defs.specs.Shapes.{IsShapedAssignment}
use Rattle.rank_defs.specs.Checks.{IsCheckedAssignment}
use Rattle.rank_defs.specs.Steps.{run}
use Rattle.rank_core.specs.declared.evaluate.Scope.{Scope}

abbrev pub memory : ℕ → List ℕ → List ℕ → Memory
memory r keeps eaches = record { rank = r; keeps = keeps; eaches = eaches }

-- the memory that a scope in the code holds
abbrev pub memory_of : Scope → Memory
memory_of s = memory s.rank s.keeps.now s.eaches.now

-- each of these assignments is checked
abbrev pub AreCheckedIn : Transaction → List Assign → Type 0
AreCheckedIn t assigns = AllByRecursion (IsCheckedAssignment (program_of t)) (map assignment_of assigns)

-- each reads and writes only declared variables, and isn't too deep
abbrev pub AreShapedIn : Transaction → List Assign → Type 0
AreShapedIn t assigns = AllByRecursion (IsShapedAssignment (program_of t)) (map assignment_of assigns)

-- the memory after running these assignments in sequence
abbrev pub run_of : Transaction → Env → List Assign → Memory → Memory
run_of t env assigns m = run (program_of t) env (map assignment_of assigns) m
