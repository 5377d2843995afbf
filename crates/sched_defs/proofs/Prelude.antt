-- The names that the proofs of this crate take from outside, passed on from one place. Declares nothing.
pub use Rattle.std.proofs.Common.{◌≡◌, List, [], arith, ℕ, ◌∷◌, Some, ap, refl, subst, sym, ◌+◌, length, suc, zero, Option, ◌++◌, ◌∙◌, None, false, ◌≤◌, Bool, true, ◌<◌, drop, if◌then◌else◌, inl, inr, map, max, replicate, ◌≢◌, append-nil, nat_eq, ◌-◌, ◌↔◌, ◌⊎◌, IfSome, IsSome, append_assoc, bytes_eq, eq-eqb, length-append, nat_lt, nat_le, not, ◌&&◌, ◌||◌, ne_eqb, slice_get, take, ◌*◌}
pub use Rattle.std.proofs.lemmas.Bool.{eqb-false, ltb-false, ltb-true}
pub use Rattle.std.specs.List.{AllByRecursion, Contains}
pub use Rattle.std.specs.Option.{option_map_or}
pub use Rattle.std.specs.Prelude.{slice_index, option_map, unwrap_or}
pub use Rattle.packet_defs.specs.declared.packet.Packet.{Packet}
pub use Rattle.policy_defs.specs.Accepted.{IsAccepted, IsNodeReady, AreMarksInRange, IsClassReady}
pub use Rattle.policy_defs.specs.Policy.{Policy, Node, Class, limits_at, group_at, no_limits, at_most, no_marks, node_at, Marks, node_below}
pub use Rattle.rank_defs.specs.Programs.{max_rank, Program}
pub use Rattle.tree_defs.proofs.OneMoreLaws.{All-added, All-taken, IsDistinct-taken, IsDistinct-added, IsOther}
pub use Rattle.tree_defs.proofs.Options.{option_bind-some, option_map-some}
pub use Rattle.tree_defs.proofs.PacketLaws.{values-packets, OneMore-put, OneMore-taken, packets-empty, packets-pop, packets-push, queue_at-pop, queue_at-pop_elsewhere, queue_at-push, queue_at-push_elsewhere, values-empty, values-pop, values-push}
pub use Rattle.tree_defs.specs.Packets.{values, Placed, packets, OneMore, queue_at, queue_in, values_below}
pub use Rattle.tree_defs.specs.Queue.{Queue, Taking, put, take_least, Entry, take_from}
pub use Rattle.tree_defs.specs.SourceTree.{size, pop, SourceTree, empty_tree, empty_trees, push, of_first, of_inner, of_later, of_leaf, pop_child, push_child, sizes}
pub use Rattle.tree_defs.specs.Topology.{Topology, topology_of}
pub use Rattle.tree_defs.specs.Tree.{Address, Tree, Trees, inner, leaf, more, none, Popping, LeadsToLeaf, root_of, LeadsBelow}
pub use Rattle.sched_defs.specs.Events.{CanArrive, Depart, Event, after, outcomes, Arrive, CanMake, Outcome, dropped_in, pushed_in, Arrived, Dropped, asked_in, departure, empty_in, outcome, Departed, Empty, popped_in, step}
pub use Rattle.sched_defs.specs.Faults.{FaultAt}
pub use Rattle.sched_defs.specs.Numbered.{CanBeSent, IsHeldBelow, departures_asked}
pub use Rattle.sched_defs.specs.Script.{Arrivals, Course, Departures, Drain, Rest, Step, course, left_by, step_events, stop_at, stopped_or, missing}
pub use Rattle.sched_defs.specs.SendTime.{send_time, SendTimeIsLeast}
pub use Rattle.sched_defs.specs.Sound.{IsSound, IsAtItsLeaf, IsWithinLimits, HasLowRanks, HasRanks, HaveLowRanks, IsKnown}
pub use Rattle.sched_defs.specs.SourceState.{SourceState, departed, arrival_ranks, arrived, class_of, Leaver, is_full, leaver, left_from, left_with, pushed, Held, dropped, way_in, first_states, leaving, no_state, start, way_out, with_packet, without, sum_over, total, one, bytes_of, one_of, is_over, passes_at, leads_over, way_to}
pub use Rattle.sched_defs.specs.Visits.{Visit, visits_below, visits_from, States, after_pops, after_pushes, child_marks, env_for, rank_at, ranks_pushed, with_state}
pub use Rattle.sched_defs.specs.declared.ending.Ending.{Ending}
