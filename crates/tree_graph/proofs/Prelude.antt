-- The names that the proofs of this crate take from outside, passed on from one place. Declares nothing.
pub use Rattle.std.proofs.Common.{arith, ℕ, length, ap, sym, ◌<◌, ◌≡◌, subst, ◌∙◌, List, [], ◌+◌, suc, refl, ◌∷◌, ◌≤◌, ◌++◌, get_or, inl, inr, zero, Contains, take, ◌≢◌, Bool, drop, false, length-append, slice_index, true≢false, All, map, true, ◌-◌, ◌↔◌, ◌⊎◌, IsTrue, Vec, append_assoc, cond, not, replicate, ◌||◌, MatchOption, None, Option, Some, below_more, is_some, max, rules, sum_by, ◌^◌}
pub use Rattle.std.proofs.Math.ListN.{get_or-eq_default, set, length-set}
pub use Rattle.std.proofs.lemmas.Bool.{cases_eq, cases_lt, eqb-true, cases_Bool, eq-eqb, ne_eqb, or_cases}
pub use Rattle.std.proofs.lemmas.List.{get_or_default, take_more, append-nil, take_all, get_or-append-add, get_or-set_other, get_or-set_same, get_or_append_left, length-take}
pub use Rattle.std.proofs.lemmas.List.Elements.{Contains-get_or, Contains-push_cases, Contains-append_left, Contains-append_right, Contains-push}
pub use Rattle.std.proofs.lemmas.List.Sums.{sum_by-cons, sum_by-append}
pub use Rattle.std.proofs.lemmas.Map.Keys.{IsDistinct-cons}
pub use Rattle.std.proofs.lemmas.Map.Steps.{length-le_from_distinct_below, le-length_from_below}
pub use Rattle.std.specs.List.{list_any, AllByRecursion, IsDistinct}
pub use Rattle.std.specs.declared.alloc.Global.{Global}
pub use Rattle.tree_core.specs.Shape.{topology}
pub use Rattle.tree_core.specs.TreeContents.{branch}
pub use Rattle.tree_defs.specs.Topology.{Topology, topologies_of, topology_of, AreBranched, IsBranched}
pub use Rattle.tree_defs.specs.Tree.{inner, Tree, Trees, leaf, more, none, nodes, root_of, Address, LeadsToLeaf, count_of, depth, most_levels, nodes_below, trees_of, LeadsBelow, depth_below}
pub use Rattle.tree_graph.specs.Descent.{Graph, lists, IsChild, Leads, children, IsForest, IsDeep, AreParents, ArePointed, IsBelow, IsWithin, AreInRange, HasOneParent, times, two_below_a_root}
pub use Rattle.tree_graph.specs.Growth.{HasRoom, ArePartsOf, HasGrown, IsPartOf}
pub use Rattle.tree_graph.specs.Marks.{MarksBelow, MarksMore, is_marked, unmarked}
pub use Rattle.tree_graph.specs.Preorder.{AreTreesOf, IsTreeOf, labels, rows, Numbered, preorder, preorder_below, rows_below, starts, IsSound, IsTreeBelow, numbered}
pub use Rattle.tree_graph.specs.Row.{Row, row, nodes_of, row_at}
