-- The names that the proofs of this crate take from outside, passed on from one place. Declares nothing.
pub use Rattle.std.proofs.Common.{[], ℕ, ◌≡◌, refl, ◌∷◌, ap, ◌∙◌, arith, suc, sym, length, List, ◌≤◌, Some, zero, ◌++◌, ◌+◌, ◌-◌, None, ◌<◌, subst, inl, inr, ◌≢◌, append-nil, length-append, Option, drop, eqb, eq-eqb, replicate, ◌*◌, append_assoc, true, ◌⊎◌, cond, get_or, ◌%◌, ◌/◌, ◌↔◌, ltb, take, Bool, false, length-drop, min, nat_lt, zero-add, ◌&&◌}
pub use Rattle.std.proofs.Math.Nat.{mul-le-mul_left, div-lt_iff_lt-mul, le_of_mul-le-mul_right}
pub use Rattle.std.proofs.lemmas.Bool.{cases_Bool, eqb-true, cases_lt, cases_order, le-ltb, lt-ltb, ltb-true, ne_eqb, and_parts, lt-leb, ltb-false, or_cases}
pub use Rattle.std.proofs.lemmas.List.{drop_at, length-replicate, drop_all, drop_more, get_or-drop, length-set, length-take-le, nil_from_length}
pub use Rattle.std.proofs.lemmas.List.Sums.{sum_by-cons}
pub use Rattle.std.specs.List.{AllByRecursion, cons_option, count_by}
pub use Rattle.std.specs.Prelude.{option_map, unwrap_or, slice_index, sum_by}
pub use mathlib.Core.Path.{fun_ext}
pub use Rattle.tree_defs.proofs.Shapes.{same_shape, topology_of-same, LeadsToLeaf-topology, pop-path, same_shapes, topologies_of-pop, topologies_of-same, topology_of-pop, topology_of-push}
pub use Rattle.tree_defs.proofs.TopologyLaws.{after-append, after-is, leaf_at, deep_leaf, leads_to, within_complete, address_of_complete, leaf_of_complete}
pub use Rattle.tree_defs.specs.Queue.{Queue, Taking, put, take_from, take_least, Entry}
pub use Rattle.tree_defs.specs.SourceTree.{SourceTree, pop, push, AreInRange, IsInRange, IsWellFormed, empty_tree, empty_trees, of_first, of_inner, of_later, of_leaf, pop_child, push_child}
pub use Rattle.tree_defs.specs.Topology.{after, Topology, IsWithin, IsPrefixOf, complete}
pub use Rattle.tree_defs.specs.Tree.{inner, leaf, more, none, Tree, Trees, root_of, SameShape, SameShapes, subtree_in, subtree, IsAddressOf, LeadsToLeaf, HasChild, LeadsBelow, Popping, nodes, nodes_below}
pub use Rattle.embed_defs.specs.Canonical.{Child, canonical, digits, image_part, children, IsAmong, canonicals, comes_before, start_of, IsCanonical}
pub use Rattle.embed_defs.specs.Embedding.{IsEmbedding, HasEmbedding}
pub use Rattle.embed_defs.specs.Family.{Family, below, push_along, SameQueues, pop_along, popped_digit, popped_last, with_branch, with_root}
pub use Rattle.embed_defs.specs.GoodMaps.{AreDeep, IsDeep, AreNested, IsNested}
pub use Rattle.embed_defs.specs.Images.{image_map, image_at}
pub use Rattle.embed_defs.specs.Laws.{AreWide, CanonicalPlacementsAreEmbeddings, CanonicalPlacementsAreOne, EmbeddingsNeedRoom, NeedsAreLeastHeights, PlacementsAreThereOrNone, TopologiesHaveOneNeed}
pub use Rattle.embed_defs.specs.Levels.{Arities, down_from, levels}
pub use Rattle.embed_defs.specs.Lift.{digit_beyond, lift_ranks, IsLift, passing_by, IsLongestAt, StandsAt, lift_ranks_below, picked_ranks, picked_ranks_below}
pub use Rattle.embed_defs.specs.LiftLaws.{Maps, CanonicalMapsAreGood, EmbeddingsAreGoodMaps, EmptyTreesHaveEmptyLifts, IsDeepestAt, IsLiftedPop, LiftOfIsTheLift, LiftedRanksAreOfTheDeepest, LiftsAreOne, MapsStay, NodesHaveImagesOfTheirOwn, PickedRanksAreThoseAtTheImages, PickedRanksAreThoseLifted, PopsOfLiftsAreLiftedPops, PushesOfLiftsAreLifts, SpillsOfLifts}
pub use Rattle.embed_defs.specs.Lifting.{lift, lift_below, placement_of, digit_at, lift_child, passing, placed_ranks, placed_ranks_below, first_of_two, lifted, lifted_child, relative, relatives}
pub use Rattle.embed_defs.specs.Need.{leaves_below, AreLower, AreNeedsOf, HasHeight, HoldNeeds, HoldsNeeds, needs_at, FitsBelow, IsNeed, IsLeast, enough}
pub use Rattle.embed_defs.specs.Placed.{Placement, IsPlaced, Placements, ArePlaced, lift_digits, IsApartFrom, part, digits_below}
pub use Rattle.embed_defs.specs.Target.{IsArity, leaves, lowest}
