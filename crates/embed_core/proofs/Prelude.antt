-- The names that the proofs of this crate take from outside, passed on from one place. Declares nothing.
pub use Rattle.std.proofs.Common.{◌≡◌, length, arith, sym, ◌∙◌, ap, List, ◌+◌, subst, ℕ, ◌<◌, [], refl, ◌≤◌, get_or, ◌∷◌, drop, ◌++◌, map, suc, zero, take, ◌-◌, rules, append-nil, append_assoc, length-drop, Global, None, Vec, eqb, false, replicate, true, Option, eq-eqb, inl, inr, length-append, Bor, Equal, Greater, Less, MatchOption, Ordering, Some, cond, length-take, ltb, min, ◌%◌, ◌*◌, ◌/◌, ◌↔◌}
pub use Rattle.std.proofs.lemmas.List.{drop_all, drop_more, take_all, get_or_default, get_or-map, length-map, length-replicate, map-append, take_at, with_items_is, get_or-drop, length-set, length-take-le, map_more}
pub use Rattle.std.proofs.lemmas.List.FromFn.{length-range_with_len, get_or-range_with_len}
pub use Rattle.std.specs.List.{AllByRecursion, range_with_len, All, Contains, count_by}
pub use Rattle.std.specs.Prelude.{slice_index, option_map, unwrap_or, IfOk}
pub use Rattle.embed_defs.proofs.CarriedCounts.{carried, carried-bound, carried-fits, times, times-count}
pub use Rattle.embed_defs.proofs.EnoughHeights.{wide-positive, enough-fits, enough-nodes, lower-more}
pub use Rattle.embed_defs.proofs.Levels.{ArePositive, leaves-le}
pub use Rattle.embed_defs.specs.Canonical.{children, canonical, Child, IsAmong, image_part, start_of, canonicals, comes_before, digits}
pub use Rattle.embed_defs.specs.Counting.{value}
pub use Rattle.embed_defs.specs.Embedding.{HasEmbedding, IsEmbedding}
pub use Rattle.embed_defs.specs.GoodMaps.{IsDeep, AreDeep, AreNested, IsNested}
pub use Rattle.embed_defs.specs.Images.{image_map, image_at}
pub use Rattle.embed_defs.specs.Laws.{AreWide}
pub use Rattle.embed_defs.specs.Levels.{Arities, down_from}
pub use Rattle.embed_defs.specs.Lift.{lift_ranks, picked_ranks, lift_ranks_below, picked_ranks_below}
pub use Rattle.embed_defs.specs.Need.{FitsBelow, needs_at, enough, leaves_below, HasHeight, IsLeast, AreLower, HoldNeeds, HoldsNeeds, AreNeedsOf}
pub use Rattle.embed_defs.specs.Preorder.{HoldsImages, image_in, tree_in, trees_in}
pub use Rattle.tree_core.proofs.NewTrees.{topology_inner, are_branched, child_branched, child_smaller}
pub use Rattle.tree_core.specs.Shape.{topology, topology_step}
pub use Rattle.tree_core.specs.TreeContents.{branch}
pub use Rattle.tree_core.specs.declared.topo.Topo.{Topo}
pub use Rattle.tree_defs.proofs.Shapes.{topology_of-same, LeadsToLeaf-topology, depth-topology, nodes-topology, nodes_below-topology, topologies_of-same}
pub use Rattle.tree_defs.specs.Topology.{IsWithin, IsBranched, Topology, complete, IsPrefixOf, after}
pub use Rattle.tree_defs.specs.Tree.{trees_of, Address, Tree, root_of, nodes, inner, leaf, Trees, more, LeadsToLeaf, nodes_below, none, LeadsBelow, depth, SameShape, depth_below, subtree_in, SameShapes, subtree}
pub use Rattle.embed_core.specs.ImageOrder.{AreApart, IsOnSide, is_behind, IsImageOrder, child_image, EachChild, GoesBeside}
pub use Rattle.embed_core.specs.LiftedPaths.{image_depths, IsLiftedPathTo, IsLeafPath, image_depths_below}
pub use Rattle.embed_core.specs.Range.{levels_of}
