-- The result and the effect of a pop.
use Rattle.std.specs.Prelude.{◌≡◌, ℕ, Option, None, Some, []}
use Rattle.tree_defs.specs.Queue.{Queue, take_least}

-- dequeues the earliest pair of the least rank, or nothing if the queue is empty
abbrev pub Pops : Queue → Option (ℕ × ℕ) → Queue → Type 0
Pops old None new = (old ≡ []) × (new ≡ [])
Pops old (Some e) new = take_least old ≡ Some (record { rank = e.0; value = e.1; rest = new })
