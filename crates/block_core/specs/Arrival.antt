-- The queued entries in order of arrival.
use Rattle.std.specs.Prelude.{◌≡◌, refl, ◌≤◌, ℕ, zero, suc, ◌+◌, List, [], ◌∷◌, ◌++◌, map, nat_eq, if◌then◌else◌}
use Rattle.tree_defs.specs.Queue.{Queue}
use Rattle.block_core.specs.declared.waiting.Waiting.{Waiting}

-- the sum of a weight over the entries
abbrev pub weight : {X : Type 0} → (X → ℕ) → List X → ℕ
weight f [] = 0
weight f (w ∷ ws) = f w + weight f ws

-- 1 for an entry with this arrival number, otherwise 0
abbrev pub came_as : ℕ → Waiting → ℕ
came_as n w = if nat_eq w.arrival n then 1 else 0

-- the entries with this arrival number
abbrev pub coming : ℕ → List Waiting → List Waiting
coming n [] = []
coming n (w ∷ ws) = if nat_eq w.arrival n then w ∷ coming n ws else coming n ws

-- the entries with a lower arrival number, in order of arrival
abbrev pub in_order : ℕ → List Waiting → List Waiting
in_order zero ws = []
in_order (suc n) ws = in_order n ws ++ coming n ws

abbrev pub pair : Waiting → ℕ × ℕ
pair w = (w.rank, w.value)

-- the queue of the entries, after `pushed` arrivals
unfoldable pub queue_of : ℕ → List Waiting → Queue
queue_of pushed ws = map pair (in_order pushed ws)

-- the first departs before the other, or is the same: it has the lower rank, or an equal rank and
-- didn't arrive later
pub record Precedes (x w : Waiting) : Type 0 where
  pub rank : x.rank ≤ w.rank
  pub tie : x.rank ≡ w.rank → x.arrival ≤ w.arrival

abbrev pub three : List Waiting
three = record { rank = 5; arrival = 2; value = 1 } ∷ record { rank = 3; arrival = 0; value = 0 } ∷ record { rank = 4; arrival = 3; value = 0 } ∷ []

pub in_order-three : map pair (in_order 4 three) ≡ (3, 0) ∷ (5, 1) ∷ (4, 0) ∷ []
in_order-three = refl
