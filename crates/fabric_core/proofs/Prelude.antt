-- The names that the proofs of this crate take from outside, passed on from one place. Declares nothing.
pub use Rattle.std.proofs.Common.{ℕ, arith, ◌≡◌, List, ◌+◌, [], length, sym, ap, get_or, ◌∙◌, subst, ◌<◌, ◌∷◌, ◌*◌, ◌≤◌, map, refl, drop, set, inl, inr, suc, Some, eqb, get_or-set_other, zero, get_or-set_same, length-set, ◌≢◌, true, ◌++◌, Option, ltb, ◌-◌, ◌^◌, Bool, None, false, length-append, rules, take, true≢false}
pub use Rattle.std.proofs.Math.Nat.{mul-le-mul_left}
pub use Rattle.std.proofs.Math.Seq.{map-set_same, get_or-append_seam}
pub use Rattle.std.proofs.lemmas.Bool.{cases_Bool, eqb-false, eqb-true, cases_lt, eq-eqb, ne_eqb, le-ltb, lt-ltb}
pub use Rattle.std.proofs.lemmas.List.{drop_more, drop_all, length-map, get_or-map, get_or-drop, map-set, with_items_is, append-nil, append_assoc, get_or_append_left, map-append, take_all, take_more_set}
pub use Rattle.std.proofs.lemmas.Nat.{same_from_place, mul-add-lt}
pub use Rattle.std.specs.List.{AllByRecursion}
pub use Rattle.std.specs.Prelude.{option_map, slice_index, if◌then◌else◌, nat_eq}
pub use Rattle.std.specs.Vec.{with_items}
pub use mathlib.Core.Path.{fun_ext}
pub use Rattle.embed_defs.specs.Family.{Address, IsLeafAddress, Family, below, push_along, Pops, HasRoomAlong, less_room_along, pop_along, popped_digit, popped_last, with_branch, IsEmpty, SameQueues, with_root}
pub use Rattle.pifo_core.specs.Sorted.{Contents}
pub use Rattle.tree_defs.proofs.Options.{option_bind-some, option_map-some}
pub use Rattle.tree_defs.specs.Queue.{Queue, put, Taking, take_least, take_from}
pub use Rattle.tree_defs.specs.SourceTree.{times}
pub use Rattle.tree_defs.specs.Tree.{Popping, option_bind}
pub use Rattle.fabric_core.specs.Array.{nodes, queues_at, room_at, array_pop, array_push, ArrayPops, ArrayTakesRoom, flows_at, of_digit, of_last, put_at, read, ArrayKeepsRoom}
pub use Rattle.fabric_core.specs.Flat.{entries_of, pushes_of, Flat, flat_queues, flat_room, spare_of}
pub use Rattle.fabric_core.specs.Flow.{IsFlow, NamesBelow, HasFlows, IsSound}
pub use Rattle.fabric_core.specs.declared.node.NodeQueue.{Ghosts}
