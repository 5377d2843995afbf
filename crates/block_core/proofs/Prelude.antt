-- The names that the proofs of this crate take from outside, passed on from one place. Declares nothing.
pub use Rattle.std.proofs.Common.{arith, ◌≡◌, sym, length, subst, ℕ, ◌∙◌, ap, [], refl, List, map, ◌+◌, ◌<◌, ◌∷◌, deque_items, heap_items, get_or, rules, suc, set, zero, ◌++◌, ◌≤◌, Some, deque_len, inl, inr, ◌-◌, IsOk, deque_capacity, eqb, false, ltb, take, ◌&&◌, Bool, cond, heap_len, length-set, ◌||◌, drop, get_or-set_other, get_or-set_same, nat_lt, true, true≢false, ◌≢◌}
pub use Rattle.std.proofs.lemmas.Bool.{cases_lt, le-ltb, lt-ltb, cases_Bool, eq-eqb, eqb-true, eqb-false, ne_eqb}
pub use Rattle.std.proofs.lemmas.Bool.Decides.{nat_tests}
pub use Rattle.std.proofs.lemmas.List.{length-map, map-set, with_items_is, append_assoc, get_or-map}
pub use Rattle.std.specs.BinaryHeap.{IsUpperBound, IsHeap, KeepsHeap}
pub use Rattle.std.specs.List.{AllByRecursion, list_any}
pub use Rattle.std.specs.List.Sorted.{IsPermutation}
pub use Rattle.std.specs.Vec.{with_items}
pub use Rattle.std.specs.declared.cmp.Reverse.{Reverse}
pub use Rattle.embed_defs.specs.Family.{IsLeafAddress, Pops, less_room_along, push_along}
pub use Rattle.fabric_core.proofs.FabricLaws.{new_empty, new_sound, few_kept, nodes_kept, pushed_queues, pushed_sound}
pub use Rattle.fabric_core.specs.Array.{flows_at, nodes, queues_at, ArrayKeepsRoom, ArrayTakesRoom, array_push, room_at}
pub use Rattle.fabric_core.specs.Flow.{HasFlows, IsFlow, NamesBelow}
pub use Rattle.tree_defs.specs.Queue.{put, take_least, Queue}
pub use Rattle.block_core.specs.Arrival.{weight, Precedes, came_as, in_order, pair, coming}
pub use Rattle.block_core.specs.Block.{held, Block, IsBlock, IsCounted, queue_in, HasSpare, IsPassed, heap_order, rooms, spills_in, all_of, IsNumbered}
pub use Rattle.block_core.specs.BlockTree.{entries_of, flows_of, pushes_of, BlockTree, block_queues, block_room, spare_of}
pub use Rattle.block_core.specs.Stores.{head_of, last_rank, flow_of, heads_of, waiting_in, IsFifo, IsStored, Follows}
pub use Rattle.block_core.specs.declared.waiting.Waiting.{Waiting}
