-- The abstract queue of a list of queued entries.
use Rattle.std.specs.Prelude.{◌≡◌, ◌<◌, ◌⊎◌, ℕ, List, [], ◌∷◌, map, if◌then◌else◌, nat_lt}
use Rattle.std.specs.List.{AllByRecursion}
use Rattle.tree_defs.specs.Queue.{Queue}
use Rattle.pifo_core.specs.declared.held.Held.{Held}
use Rattle.pifo_core.specs.declared.held.Brief.{Brief}

-- a `Brief` entry at full width
abbrev pub wide : Brief → Held
wide b = record { rank = b.rank; arrival = b.arrival; value = b.value }

-- inserts an entry in order of arrival
abbrev pub placed : Held → List Held → List Held
placed x [] = x ∷ []
placed x (e ∷ others) = if nat_lt e.arrival x.arrival then e ∷ placed x others else x ∷ e ∷ others

abbrev pub in_arrival_order : List Held → List Held
in_arrival_order [] = []
in_arrival_order (e ∷ others) = placed e (in_arrival_order others)

abbrev pub pair : Held → ℕ × ℕ
pair e = (e.rank, e.value)

unfoldable pub queue_of : List Held → Queue
queue_of held = map pair (in_arrival_order held)

-- x is dequeued before y: it has a lower rank, or the same rank and an earlier arrival
abbrev pub Leaves : Held → Held → Type 0
Leaves x y = (x.rank < y.rank) ⊎ ((x.rank ≡ y.rank) × (x.arrival < y.arrival))

-- the entries are in dequeue order
abbrev pub InLeavingOrder : List Held → Type 0
InLeavingOrder [] = Unit {0}
InLeavingOrder (x ∷ others) = AllByRecursion (Leaves x) others × InLeavingOrder others

abbrev pub ArrivedBefore : ℕ → List Held → Type 0
ArrivedBefore arrival held = AllByRecursion (λ e. e.arrival < arrival) held
