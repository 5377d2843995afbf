-- The names that the proofs of this crate take from outside, passed on from one place. Declares nothing.
pub use Rattle.std.proofs.Common.{arith, ◌≡◌, ap, ◌∙◌, get_or, length, ◌<◌, subst, ◌≤◌, List, [], refl, ◌∷◌, sym, take, ℕ, ◌+◌, ◌^◌, rules, set, suc, zero, drop, map, ◌-◌, ◌++◌, Some, Err, Global, Ok, OnOk, Result, Vec, append-nil, append_assoc, inl, inr, max}
pub use Rattle.std.proofs.lemmas.List.{take_all, length_push, map_more}
pub use Rattle.pifo_core.specs.Sorted.{Contents}
pub use Rattle.tree_defs.proofs.WellFormedLaws.{IsWellFormed-push, IsWellFormed-empty, IsWellFormed-pop, length-size, taken_names, times-taken}
pub use Rattle.tree_defs.specs.Queue.{Queue, put, take_least, Taking, take_from}
pub use Rattle.tree_defs.specs.SourceTree.{IsWellFormed, push, empty_trees, push_child, AreWellFormed, NamesChildren, empty_tree, of_first, of_inner, of_later, of_leaf, pop, pop_child, size, times}
pub use Rattle.tree_defs.specs.Topology.{IsBranched, AreBranched, Topology}
pub use Rattle.tree_defs.specs.Tree.{Tree, Trees, depth, inner, more, nodes, LeadsToLeaf, trees_of, depth_below, none, nodes_below, HasChild, LeadsBelow, Popping, leaf}
pub use Rattle.tree_core.specs.Paths.{digits_of, ranks_of, Way}
pub use Rattle.tree_core.specs.Places.{HasRoom, HasRoomBelow, without_places, without_places_below, HasNoFewer, HaveNoFewer}
pub use Rattle.tree_core.specs.Shape.{topology, topology_step}
pub use Rattle.tree_core.specs.TreeContents.{TreeContents, forest, branch, HasDigits, IsSound, grown, EachPushed, spares, EachBelow, PopsOnto}
pub use Rattle.tree_core.specs.declared.topo.Topo.{Topo}
