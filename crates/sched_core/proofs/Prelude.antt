-- The names that the proofs of this crate take from outside, passed on from one place. Declares nothing.
pub use Rattle.std.proofs.Common.{arith, ◌≡◌, ap, ◌∙◌, sym, ℕ, List, length, subst, Some, ◌<◌, [], refl, ◌∷◌, Option, None, ◌+◌, ◌≤◌, get_or, suc, zero, ◌++◌, is_some, if◌then◌else◌, nat_eq, ◌==◌, Bool, false, take, true≢false, ap₂, drop, set, true, ◌%◌, ◌&&◌, ◌-◌, ◌≢◌, map, ◌^◌, IfSome, rules, ◌||◌, add-one, eq-eqb, ne_eqb, ◌↔◌, IsSome, append-nil, append_assoc, bytes_eq, codes, eqb-true, inl, inr, max, nat_le, nat_lt, replicate, ◌/◌}
pub use Rattle.std.proofs.lemmas.Bool.{ltb-true, and_from, and_parts, cases_eq, eqb-false, le-leb, leb-true, ltb-false, lt-ltb}
pub use Rattle.std.proofs.lemmas.List.{length-append, drop_all, drop_more, take_more, get_or-replicate, length-map, length-replicate, length-set, length-take-le, take-append-drop, take_all}
pub use Rattle.std.proofs.lemmas.List.Folds.{list_any-append}
pub use Rattle.std.proofs.lemmas.Option.{slice_get-get_or, slice_get-map, get_or_from_slice_get, slice_get_within}
pub use Rattle.std.proofs.lemmas.Result.{err_from_is_err_and, on_ok_weaker, on_err_weaker}
pub use Rattle.std.specs.List.{AllByRecursion, Contains, IsDistinct, list_any}
pub use Rattle.std.specs.Option.{option_map_or}
pub use Rattle.std.specs.Prelude.{slice_get, slice_index_or, unwrap_or, slice_set, IsSomeAnd, Err, IfOk, Ok, Result, Vec, option_map, slice_index, OnErr, is_ok, pos, ⊤}
pub use Rattle.std.specs.VecDeque.{deque_len}
pub use Rattle.std.specs.declared.alloc.Global.{Global}
pub use Rattle.indexmap.specs.IndexMap.{get, keys}
pub use Rattle.packet_defs.specs.declared.packet.Packet.{Packet}
pub use Rattle.policy_core.proofs.NumberedAddresses.{address-undone, number-undone, IsNumber, IsAddress}
pub use Rattle.policy_core.specs.Numbering.{address_at, HasAt}
pub use Rattle.policy_core.specs.Parts.{class_in, told}
pub use Rattle.policy_defs.specs.Accepted.{IsAccepted, AreMarksInRange, IsClassReady, HasFewChildren, HaveFewChildren, IsNodeReady}
pub use Rattle.policy_defs.specs.Numbers.{number_at}
pub use Rattle.policy_defs.specs.Policy.{Node, Policy, node_at, no_marks, node_below}
pub use Rattle.rank_core.proofs.Lists.{refilled, get_set_other, get_set_same}
pub use Rattle.rank_core.specs.Forms.{IsForm, RunAs}
pub use Rattle.rank_core.specs.Node.{HasRoom, state_of, BelongsTo, children_of}
pub use Rattle.rank_core.specs.declared.node.NodeState.{NodeState}
pub use Rattle.rank_defs.proofs.SameStates.{same-trans, after_pop-same, after_push-same, in_range-same, push_step-same, same-sym}
pub use Rattle.rank_defs.specs.Programs.{max_rank, Program, program_of, Assignment, span, target}
pub use Rattle.rank_defs.specs.Shapes.{IsStateInRange, IsShaped}
pub use Rattle.rank_defs.specs.States.{SameState, State, Memory, first_state, memory_for, put_back, variable_in}
pub use Rattle.rank_defs.specs.Steps.{after_push, after_pop, push_rank, clamped, run, write}
pub use Rattle.rank_defs.specs.declared.environment.Env.{Env}
pub use Rattle.rank_defs.specs.declared.environment.Who.{Who}
pub use Rattle.rank_defs.specs.declared.environment.Who.TheVariants.{Child, Flow}
pub use Rattle.sched_defs.proofs.Soundness.{leads_in, class_is_ready, popped_is_held}
pub use Rattle.sched_defs.proofs.Visits.{class_ready}
pub use Rattle.sched_defs.specs.Laws.{LeavesItsLeaf}
pub use Rattle.sched_defs.specs.Sound.{IsSound, IsAtItsLeaf, IsKnown}
pub use Rattle.sched_defs.specs.SourceState.{class_of, SourceState, arrival_ranks, leaver, left_with, way_in, way_out, departed, first_states, leaving, no_state, pushed, start}
pub use Rattle.sched_defs.specs.Visits.{Visit, States, after_pops, after_pushes, env_for, ranks_pushed, visits_from, rank_at, with_state, visit, visits_below, child_marks}
pub use Rattle.tree_core.specs.Shape.{topology}
pub use Rattle.tree_defs.proofs.WellFormedLaws.{size-empty, size-pop, size-push}
pub use Rattle.tree_defs.specs.SourceTree.{SourceTree, pop, size, empty_tree, sizes}
pub use Rattle.tree_defs.specs.Topology.{topology_of, Topology, topologies_of}
pub use Rattle.tree_defs.specs.Tree.{Tree, Address, LeadsToLeaf, nodes, inner, leaf, subtree, IsAddressOf, Trees, more, none, depth, root_of, subtree_in, LeadsBelow, Popping, count_of, depth_below, trees_of}
pub use Rattle.sched_core.specs.Agreement.{policy_of, AreStates}
pub use Rattle.sched_core.specs.Arrivals.{leaf_number}
pub use Rattle.sched_core.specs.Chunks.{packet_within, packet_from, packet_of, numbers_below}
pub use Rattle.sched_core.specs.Held.{or_stray, held_at, numbers_in}
pub use Rattle.sched_core.specs.Kept.{part_at, HaveValues, AreNodeStates, HasRoomAt, IsNodeStateOf, arity, Keeps}
pub use Rattle.sched_core.specs.PolicyState.{policy_in, AreFilled, PopsNext}
pub use Rattle.sched_core.specs.Slots.{packet_in, packet_among, are_ordered, filled_among, place_behind, stands_at, place_of, is_filled, base_with, later_than}
pub use Rattle.sched_core.specs.PathNodes.{marks_on, ArePathNodes, rank_told, IsPathNode, AreWays, mark_told}
pub use Rattle.sched_core.specs.Ways.{tree_for, class_for, IsReady, ForValues, KeepsRoom, stop, AreLowRanks, ahead, part, place, way, who_on, HasRoomAtLeaf, IsAtLevel, ValuesBecome}
pub use Rattle.sched_core.specs.Windows.{packet_at, end_of}
pub use Rattle.sched_core.specs.declared.chunk.Chunk.{Chunk}
pub use Rattle.sched_core.specs.declared.node_states.PacketPath.{PacketPath}
pub use Rattle.sched_core.specs.declared.path_node.PathNode.{PathNode}
pub use Rattle.sched_core.specs.declared.chunk.Slot.{Slot}
