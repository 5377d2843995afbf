-- The names that the proofs of this crate take from outside, passed on from one place. Declares nothing.
pub use Rattle.std.proofs.Common.{arith, ◌≡◌, ap, ◌∙◌, false, length, ◌<◌, ◌≤◌, [], refl, sym, true, Some, map, ◌∷◌, List, get_or, rules, suc, zero, ℕ, ◌+◌, deque_len, heap_items, heap_len, inl, inr, insert, remove, ◌++◌, ◌-◌, ◌≢◌, Bool, IsOk, cond, drop, nat_le, nat_lt, set, subst, take, vec_capacity, vec_len}
pub use Rattle.std.proofs.Math.Nat.{eq-or-lt_of_le}
pub use Rattle.std.proofs.lemmas.Bool.Decides.{nat_tests}
pub use Rattle.std.proofs.lemmas.List.Elements.{All-from_recursion, recursion_from_All}
pub use Rattle.std.proofs.lemmas.Map.Keys.{IsDistinct-IsPermutation}
pub use Rattle.std.specs.List.{AllByRecursion, AllWithin, swap}
pub use Rattle.std.specs.List.Sorted.{IsPermutation, IsPartitionPoint}
pub use Rattle.std.specs.declared.cmp.Reverse.{Reverse}
pub use Rattle.tree_defs.specs.Queue.{put, take_least, Queue, Taking}
pub use Rattle.pifo_core.specs.Heaped.{held_of_both, IsHeaped, IsUpTo, TopIsFirst, top_of, arrived_together, leads, heap_order, held_of, leaving_order}
pub use Rattle.pifo_core.specs.Held.{queue_of, ArrivedBefore, InLeavingOrder, Leaves, in_arrival_order, pair, placed, wide}
pub use Rattle.pifo_core.specs.declared.held.Held.{Held}
