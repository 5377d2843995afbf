-- The contents and invariants of a queue of rank stores.
use Rattle.std.specs.Prelude.{◌≡◌, refl, ◌≤◌, ◌<◌, ℕ, ◌+◌, Bool, true, false, ◌&&◌, List, [], ◌∷◌, ◌++◌, length, map, nat_eq, nat_lt, slice_index_or, if◌then◌else◌}
use Rattle.std.specs.List.{AllByRecursion, list_any}
use Rattle.std.specs.BinaryHeap.{IsHeap}
use Rattle.std.specs.declared.cmp.Ordering.{Ordering}
use Rattle.std.specs.declared.cmp.Ordering.TheVariants.{Less, Greater}
use Rattle.std.specs.Ordering.{nat_cmp, ordering_then}
use Rattle.std.specs.declared.cmp.Reverse.{Reverse}
use Rattle.std.specs.declared.collections.VecDeque.{VecDeque}
use Rattle.std.specs.VecDeque.{deque_len, deque_capacity}
use Rattle.tree_defs.specs.Queue.{Queue}
use Rattle.block_core.specs.declared.waiting.Waiting.{Waiting}
use Rattle.block_core.specs.Arrival.{weight, came_as, queue_of}
use Rattle.block_core.specs.Stores.{waiting_in, heads_of, last_rank, flow_of, IsStored, three_flows}

-- the state of a queue that contracts refer to
pub record Block : Type 0 where
  pub flows : ℕ
  pub entries : Queue
  pub pushes : ℕ
  pub spare : ℕ

-- an entry of a greater rank is queued in the flow of this value
abbrev pub spills_in : ℕ → ℕ → ℕ → Queue → Bool
spills_in flows rank value q = list_any (λ e. nat_eq (flow_of flows e.1) (flow_of flows value) && nat_lt rank e.0) q

abbrev pub held : List (Reverse Waiting) → List Waiting
held items = map (λ r. r.0) items

-- the heads, the entries after them, and the spilled entries
abbrev pub all_of : List (List Waiting) → List Waiting → List Waiting
all_of stores spilled = waiting_in stores ++ spilled

-- the same in order of arrival
abbrev pub queue_in : ℕ → List (List Waiting) → List Waiting → Queue
queue_in pushed stores spilled = queue_of pushed (all_of stores spilled)

-- the order of departure: by rank, then by arrival number
abbrev pub leaving_order : Waiting → Waiting → Ordering
leaving_order x y = ordering_then (nat_cmp x.rank y.rank) (ordering_then (nat_cmp x.arrival y.arrival) (nat_cmp x.value y.value))

-- the greatest of a heap departs first
abbrev pub heap_order : Reverse Waiting → Reverse Waiting → Ordering
heap_order x y = leaving_order y.0 x.0

-- at most one entry has each arrival number below this one, and no entry has any other
abbrev pub IsNumbered : ℕ → List Waiting → Type 0
IsNumbered pushed ws = (n : ℕ) → weight (came_as n) ws ≤ (if nat_lt n pushed then 1 else 0)

-- a spilled entry has a lower rank than the last entry of its flow
abbrev pub IsPassed : List (List Waiting) → Waiting → Type 0
IsPassed stores w = w.rank < last_rank (slice_index_or stores (flow_of (length stores) w.value) [])

pub record IsBlock (stores : List (List Waiting)) (heads spilled : List (Reverse Waiting)) (pushed : ℕ) : Type 0 where
  pub some : 1 ≤ length stores
  pub numbered : IsNumbered pushed (all_of stores (held spilled))
  pub in_flows : IsStored (length stores) 0 stores
  pub heads_are : (f : Waiting → ℕ) → weight f (held heads) ≡ weight f (heads_of stores)
  pub passed : AllByRecursion (IsPassed stores) (held spilled)
  pub heads_order : IsHeap heap_order heads
  pub spilled_order : IsHeap heap_order spilled

-- the number of entries of each store, and its capacity
abbrev pub rooms : {Z : Type 0} → List (VecDeque Waiting Z) → List (ℕ × ℕ)
rooms stores = map (λ s. (deque_len s, deque_capacity s)) stores

-- each store has room for this number of further entries
abbrev pub HasSpare : ℕ → List (ℕ × ℕ) → Type 0
HasSpare spare rooms = AllByRecursion (λ r. r.0 + spare ≤ r.1) rooms

-- this number of entries is queued, and it is at most the number that arrived
pub record IsCounted (waiting pushed : ℕ) (stores : List (List Waiting)) (spilled : List Waiting) : Type 0 where
  pub all : weight (λ _. 1) (all_of stores spilled) ≡ waiting
  pub few : waiting ≤ pushed

-- ---- the three flows, and an entry of the first that arrived with number 3 and spilled
abbrev pub passed : Waiting
passed = record { rank = 2; arrival = 3; value = 0 }

pub queue_in-order_of_arrival : queue_in 6 three_flows (passed ∷ []) ≡ (4, 0) ∷ (2, 0) ∷ (3, 2) ∷ (6, 0) ∷ []
unfolding queue_of
queue_in-order_of_arrival = refl

pub spills_in-own_flow : spills_in 3 5 0 (queue_in 6 three_flows []) ≡ true
unfolding queue_of
spills_in-own_flow = refl

pub spills_in-same_rank : spills_in 3 6 0 (queue_in 6 three_flows []) ≡ false
unfolding queue_of
spills_in-same_rank = refl

pub spills_in-other_flow : spills_in 3 5 2 (queue_in 6 three_flows []) ≡ false
unfolding queue_of
spills_in-other_flow = refl

-- with one flow, as at a leaf, each entry counts
pub spills_in-one_flow : spills_in 1 5 2 (queue_in 6 three_flows []) ≡ true
unfolding queue_of
spills_in-one_flow = refl

-- the rank decides, then the order of arrival, whatever the values
pub leaving_order-rank : leaving_order passed (record { rank = 3; arrival = 1; value = 0 }) ≡ Less
leaving_order-rank = refl

pub leaving_order-arrival : leaving_order passed (record { rank = 2; arrival = 1; value = 9 }) ≡ Greater
leaving_order-arrival = refl

abbrev in_heap : Waiting → Reverse Waiting
in_heap w = record { 0 = w }

pub heap_order-first_is_greatest : heap_order (in_heap passed) (in_heap (record { rank = 3; arrival = 1; value = 0 })) ≡ Greater
heap_order-first_is_greatest = refl
