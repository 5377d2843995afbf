-- The invariant of a queue kept in a run and a binary heap.
use Rattle.std.specs.Prelude.{◌≤◌, ℕ, List, [], ◌∷◌, ◌++◌, map, Bool, false, true, nat_eq}
use Rattle.std.specs.List.{AllByRecursion, IsDistinct}
use Rattle.std.specs.BinaryHeap.{IsHeap, IsUpperBound}
use Rattle.std.specs.declared.cmp.Ordering.{Ordering}
use Rattle.std.specs.Ordering.{nat_cmp, ordering_then, is_lt}
use Rattle.std.specs.declared.cmp.Reverse.{Reverse}
use Rattle.pifo_core.specs.declared.held.Held.{Held}
use Rattle.pifo_core.specs.declared.held.Brief.{Brief}
use Rattle.pifo_core.specs.Held.{wide, InLeavingOrder, ArrivedBefore}

abbrev pub held_of : List (Reverse Held) → List Held
held_of items = map (λ r. r.0) items

-- dequeue order: by rank, then by sequence number
abbrev pub leaving_order : Held → Held → Ordering
leaving_order x y = ordering_then (nat_cmp x.rank y.rank) (ordering_then (nat_cmp x.arrival y.arrival) (nat_cmp x.value y.value))

-- the greatest element of the heap is the first to be dequeued
abbrev pub heap_order : Reverse Held → Reverse Held → Ordering
heap_order x y = leaving_order y.0 x.0

abbrev pub arrived_together : Held → Held → Bool
arrived_together x y = nat_eq x.arrival y.arrival

-- an entry of the heap
abbrev pub aside : ℕ → ℕ → ℕ → Reverse Held
aside rank arrival value = record { 0 = record { rank = rank; arrival = arrival; value = value } }

-- the entry on top of the heap
abbrev pub top_of : List (Reverse Held) → Reverse Held
top_of [] = aside 0 0 0
top_of (top ∷ items) = top

-- no entry of the heap is dequeued before the one on top
abbrev pub TopIsFirst : List (Reverse Held) → Type 0
TopIsFirst [] = Unit {0}
TopIsFirst (top ∷ items) = IsUpperBound heap_order top (top ∷ items)

-- the entries of the run, followed by those of the heap
abbrev pub held_of_both : List Brief → List (Reverse Held) → List Held
held_of_both run items = map wide run ++ held_of items

-- whether the first entry of the run is dequeued before the top of the heap
abbrev pub leads : List Brief → List (Reverse Held) → Bool
leads [] items = false
leads (first ∷ run) [] = true
leads (first ∷ run) (top ∷ items) = is_lt (leaving_order (wide first) top.0)

-- no rank in the run is above this one
abbrev pub IsUpTo : ℕ → List Brief → Type 0
IsUpTo last run = AllByRecursion (λ (e : Held). e.rank ≤ last) (map wide run)

pub record IsHeaped (run : List Brief) (items : List (Reverse Held)) (pushed : ℕ) : Type 0 where
  pub in_order : InLeavingOrder (map wide run)
  pub in_heap : IsHeap heap_order items
  pub apart : IsDistinct arrived_together (held_of_both run items)
  pub earlier : ArrivedBefore pushed (held_of_both run items)
