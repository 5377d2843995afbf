-- The names that the proofs of this crate take from outside, passed on from one place. Declares nothing.
pub use Rattle.std.proofs.Common.{◌≡◌, Some, [], ap, arith, refl, subst, ℕ, ◌∙◌, ◌∷◌, suc, List, length, sym, zero, ◌+◌, None, ◌++◌, inl, inr, ◌<◌, eq-eqb, ◌≢◌, ◌≤◌, Option, eqb, false, map, nat_eq, ◌↔◌}
pub use Rattle.std.proofs.lemmas.Bool.{cases_lt, cases_Bool, eqb-true, le-leb, lt-leb, ne_eqb}
pub use Rattle.std.specs.List.{AllByRecursion}
pub use Rattle.std.specs.Prelude.{drop, slice_index}
pub use Rattle.tree_defs.specs.Packets.{OneMore, Placed, below, packets, packets_below, queue_at, queue_in, values, values_below}
pub use Rattle.tree_defs.specs.Queue.{Queue, Taking, take_least, put, Entry, take_from, sooner}
pub use Rattle.tree_defs.specs.QueueLaws.{LeavesFrom, EarliestOfTheLeastLeaves, NothingLeavesAnEmptyQueue}
pub use Rattle.tree_defs.specs.SourceTree.{empty_tree, empty_trees, of_first, of_inner, of_later, of_leaf, pop, pop_child, push, push_child, AreWellFormed, IsWellFormed, size, times, AreInRange, IsInRange, NamesChildren, SourceTree, sizes}
pub use Rattle.tree_defs.specs.Topology.{Topology, after, IsWithin, complete, copies, topologies_of, topology_of}
pub use Rattle.tree_defs.specs.Tree.{leaf, Address, LeadsToLeaf, Trees, inner, more, none, LeadsBelow, Tree, Popping, subtree, subtree_in, HasChild, IsAddressOf, SameShape, SameShapes, child, depth, depth_below, nodes, nodes_below, option_bind, root_of}
