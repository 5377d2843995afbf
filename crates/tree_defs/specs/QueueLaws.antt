-- Laws that follow from the definition of a queue.
use Rattle.std.specs.Prelude.{◌≡◌, ◌<◌, ◌≤◌, ◌↔◌, Some, None, [], ◌∷◌, ◌++◌}
use Rattle.std.specs.List.{AllByRecursion}
use Rattle.tree_defs.specs.Queue.{Entry, Queue, Taking, take_least}

-- the dequeued pair has only higher ranks before it, and no lower rank after it
pub record LeavesFrom (q : Queue) (t : Taking) : Type 0 where
  pub before : Queue
  pub after : Queue
  pub stands : q ≡ before ++ (t.rank, t.value) ∷ after
  pub above : AllByRecursion (λ (e : Entry). t.rank < e.0) before
  pub from : AllByRecursion (λ (e : Entry). t.rank ≤ e.0) after
  pub rest : t.rest ≡ before ++ after

abbrev pub EarliestOfTheLeastLeaves : Type 0
EarliestOfTheLeastLeaves = (q : Queue) (t : Taking) → (take_least q ≡ Some t) ↔ LeavesFrom q t

abbrev pub NothingLeavesAnEmptyQueue : Type 0
NothingLeavesAnEmptyQueue = (q : Queue) → (take_least q ≡ None) ↔ (q ≡ [])
