-- The contents of a summary, and what outcomes add to it.
use Rattle.std.specs.Prelude.{◌≡◌, ℕ, None, option_map, IsTrue, List, [], ◌++◌, length, replicate, slice_get}
use Rattle.std.specs.List.{AllByRecursion}
use Rattle.std.specs.List.Sorted.{IsPermutation}
use Rattle.summary_core.specs.Counting.{no_counts}
use Rattle.summary_core.specs.Timestamps.{stamp_in}
use Rattle.sched_defs.specs.Events.{Outcome}
use Rattle.sched_defs.specs.declared.rate.LinkRate.{LinkRate}
use Rattle.summary_core.specs.Summing.{ClassEvent, Timestamps, stamps_behind, events_by, counted, any_class, is_class, is_at_leaf, items_at, delays_in}
use Rattle.summary_core.specs.Lists.{list_at}
use Rattle.summary_core.specs.declared.summary.Summary.{Summary}

-- the timestamp stored under a packet's number, if there is one
abbrev pub timestamp_at : Summary → Timestamps
timestamp_at s n = stamp_in s.timestamps n

-- the rate, the leaves of the classes and whether a call failed are unchanged
pub record Stays (w v : Summary) : Type 0 where
  pub rate : v.rate ≡ w.rate
  pub table : v.table ≡ w.table
  pub live : v.live ≡ w.live

-- all sums and lists are unchanged
pub record HoldsAlike (w v : Summary) : Type 0 where
  pub whole : v.whole ≡ w.whole
  pub all : v.all ≡ w.all
  pub leaves : v.leaves ≡ w.leaves
  pub classes : v.classes ≡ w.classes
  pub delays : (c : ℕ) → items_at v.delays.items c ≡ items_at w.delays.items c

-- the delays of each class are in any order, and all sums are unchanged
pub record IsReordered (w v : Summary) : Type 0 where
  pub table : v.table ≡ w.table
  pub all : v.all ≡ w.all
  pub leaves : v.leaves ≡ w.leaves
  pub classes : v.classes ≡ w.classes
  pub delays : (c : ℕ) → IsPermutation (list_at w.delays.items c) (list_at v.delays.items c)

-- each sum counts the events of its group, and each class has the delays of its departures
pub record AddsEvents (w v : Summary) (es : List ClassEvent) : Type 0 where
  pub whole : IsTrue w.whole
  pub table : v.table ≡ w.table
  pub all : v.all ≡ counted any_class w.all es
  pub leaves : (l : ℕ) → slice_get v.leaves.items l ≡ option_map (λ c. counted (is_at_leaf w.table.items l) c es) (slice_get w.leaves.items l)
  pub classes : (k : ℕ) → slice_get v.classes.items k ≡ option_map (λ c. counted (is_class k) c es) (slice_get w.classes.items k)
  pub delays : (k : ℕ) → items_at v.delays.items k ≡ option_map (λ l. l ++ delays_in k es) (items_at w.delays.items k)

-- The sums of outcomes are the sums of their events, if each sum had room.
pub record Sums (w v : Summary) (os : List Outcome) : Type 0 where
  pub rate : v.rate ≡ w.rate
  pub table : v.table ≡ w.table
  pub timestamps : IsTrue v.whole → (n : ℕ) → timestamp_at v n ≡ stamps_behind (timestamp_at w) os n
  pub sums : IsTrue v.whole → AddsEvents w v (events_by w.rate (timestamp_at w) os)

-- nothing was summed; the table gives the index of each class's leaf
pub record SumsNothing (link : LinkRate) (leaf_of : List ℕ) (count : ℕ) (s : Summary) : Type 0 where
  pub rate : s.rate ≡ link
  pub table : s.table.items ≡ leaf_of
  pub timestamps : (n : ℕ) → timestamp_at s n ≡ None
  pub all : s.all ≡ no_counts
  pub leaves : s.leaves.items ≡ replicate count no_counts
  pub classes : s.classes.items ≡ replicate (length leaf_of) no_counts
  pub lists : length s.delays.items ≡ length leaf_of
  pub delays : AllByRecursion (λ l. l.items ≡ []) s.delays.items
  pub whole : IsTrue s.whole
  pub live : IsTrue s.live
