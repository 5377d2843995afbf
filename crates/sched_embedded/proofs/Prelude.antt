-- The names that the proofs of this crate take from outside, passed on from one place. Declares nothing.
pub use Rattle.std.proofs.Common.{sym, ℕ, ◌∙◌, ap, ◌≡◌, subst, List, arith, length, Some, [], refl, suc, ◌∷◌, None, zero, ◌+◌, Option, map, ◌++◌, false, ◌<◌, IsSome, drop, get_or, inl, inr, nat_eq, replicate, ◌-◌, ◌↔◌, ◌≤◌, ◌⊎◌, if◌then◌else◌}
pub use Rattle.std.proofs.lemmas.List.{length-map, get_or-map, length-append, with_items_is}
pub use Rattle.std.specs.List.{AllByRecursion, Contains}
pub use Rattle.std.specs.Option.{option_map_or}
pub use Rattle.std.specs.Prelude.{slice_get, slice_index, IfSome, option_map, unwrap_or}
pub use Rattle.embed_core.specs.LiftedPaths.{IsLiftedPathTo, AreLeafPaths}
pub use Rattle.embed_core.specs.Picks.{IsLeafImage}
pub use Rattle.embed_core.specs.declared.lifted_path.LiftedPath.{LiftedPath}
pub use Rattle.embed_defs.specs.Family.{Family, AreRanks, IsLeafAddress, Pops, push_along, IsEmpty, SameQueues, pop_along}
pub use Rattle.embed_defs.specs.GoodMaps.{IsGoodMap}
pub use Rattle.embed_defs.specs.Images.{image_map, image_at}
pub use Rattle.embed_defs.specs.Lift.{IsLift, lift_ranks, picked_ranks, StandsAt, lift_ranks_below}
pub use Rattle.embed_defs.specs.Spilling.{push_spills}
pub use Rattle.embed_defs.specs.Spills.{spills_along}
pub use Rattle.packet_defs.specs.declared.packet.Packet.{Packet}
pub use Rattle.policy_defs.specs.Policy.{Policy, Class, Node, no_marks}
pub use Rattle.sched_core.specs.PolicyState.{policy_in, PopsNext}
pub use Rattle.sched_core.specs.Spills.{raised}
pub use Rattle.sched_defs.proofs.Leaving.{pop_size, arrives_at_a_leaf, held_count, values_are_numbers}
pub use Rattle.sched_defs.specs.Sound.{IsSound, IsAtItsLeaf}
pub use Rattle.sched_defs.specs.SourceState.{SourceState, Held, class_of, departed, arrival_ranks, is_full, leaver, leads_over, sum_over, total}
pub use Rattle.tree_core.specs.Paths.{Way}
pub use Rattle.tree_defs.proofs.Shapes.{topology_of-same, LeadsToLeaf-topology, depth-topology, pop-path, same_shape, topology_of-empty}
pub use Rattle.tree_defs.proofs.TopologyLaws.{leaf_at, deep_leaf}
pub use Rattle.tree_defs.specs.Queue.{Queue}
pub use Rattle.tree_defs.specs.SourceTree.{SourceTree, empty_tree, pop, push, size}
pub use Rattle.tree_defs.specs.Topology.{topology_of, IsWithin, Topology, complete, topologies_of}
pub use Rattle.tree_defs.specs.Tree.{Address, Tree, LeadsToLeaf, Trees, inner, leaf, more, none, SameShape, root_of, IsAddressOf, Popping, depth}
pub use Rattle.sched_embedded.specs.Laid.{Laid, HoldsLift, IsLaid, PopsTo, leaf_of, HasLiftedPaths}
