-- The names that the proofs of this crate take from outside, passed on from one place. Declares nothing.
pub use Rattle.std.proofs.Common.{List, ◌≡◌, ℕ, ap, sym, subst, [], ◌∙◌, arith, length, ◌<◌, ◌∷◌, refl, get_or, suc, true, Some, map, zero, None, ◌++◌, Option, inl, inr, ◌+◌, ◌≤◌, take, false, Bool, Contains, true≢false, ◌||◌, Any, cond, length-append, not, slice_index, IsTrue, append-nil, append_assoc, is_some, unwrap_or, ◌≢◌, ◌⊎◌, drop, if◌then◌else◌, position, ◌&&◌, ◌↔◌, Vec, filter_map, ◌-◌, ◌^◌, ap₂, nat_lt, set, count_by, filter, find, leb-true, max, nat_le, option_map, replicate, slice_index_or}
pub use Rattle.std.proofs.Math.Bool.{or-true, or-false}
pub use Rattle.std.proofs.Math.ListN.{get_or-eq_default}
pub use Rattle.std.proofs.lemmas.Bool.{cases_Bool, cases_lt, and_parts, eqb-true, cases_order, cases_eq, eq-eqb, eqb-false, le-ltb, lt-ltb, ltb-true, ne_eqb, true_from_ne_false}
pub use Rattle.std.proofs.lemmas.List.{get_or_default, length-map, get_or-append-add, get_or-set_other, get_or-set_same, get_or_append_left, length-set, map-append, take_all, get_or-take, length-replicate, length-take, map_push}
pub use Rattle.std.proofs.lemmas.List.Elements.{Contains-append_right, recursion_from_All, filter_map-append, All-cons, All-contains, All-filter, All-from_recursion, All-head, All-map, All-nil, All-tail, filter_passes}
pub use Rattle.std.proofs.lemmas.List.Folds.{list_any_at, Any-from_list_any, flat_map-map, list_any-append, list_any_more}
pub use Rattle.std.proofs.lemmas.List.Sums.{sum_by-cons, AllPass-from_list_all, get_or-le-sum_by, sum_by-append}
pub use Rattle.std.proofs.lemmas.Result.{on_ok_weaker}
pub use Rattle.std.proofs.lemmas.Slice.Eq.{bytes_eq-Decides}
pub use Rattle.std.specs.List.{AllByRecursion, list_all, cons_option, IsDistinct, AllZip, flat_map, list_any}
pub use Rattle.std.specs.Option.{option_map_or, option_and_then, option_to_list}
pub use Rattle.std.specs.Prelude.{IsSomeAnd, codes, IfErr, OnOk, slice_get, ◌==◌}
pub use Rattle.std.specs.Str.{bytes_eq}
pub use Rattle.policy_defs.specs.Accepted.{IsAccepted, AreMarksInRange, HasFewChildren, HaveFewChildren, IsClassReady, IsNodeReady}
pub use Rattle.policy_defs.specs.BuiltIn.{AreBuiltIn}
pub use Rattle.policy_defs.specs.Numbers.{number_at, number_below}
pub use Rattle.policy_defs.specs.Policy.{Node, node_at, node_below, Marks, Policy, name_at}
pub use Rattle.policy_rules.proofs.Lines.{given-more, given-within, entries-more, entry-at, within-entries, Line, length-entries}
pub use Rattle.policy_rules.proofs.Lists.{all-weaker, all-append, all-first, all-second}
pub use Rattle.policy_rules.proofs.PlaceLaws.{place-within, at-place, has-at, found, place-at, at-places}
pub use Rattle.policy_rules.proofs.SpaceLaws.{declared-distinct, declared-few}
pub use Rattle.policy_rules.specs.Accepted.{AreAccepted, AreAcyclic, HaveRoot, AreKnown, IsFault, AreFew, AreShallow, AreComputable, AreNew, ArePlaced, HaveCatchAll, HaveParents}
pub use Rattle.policy_rules.specs.Clauses.{NoLine, root, IsRepeated, IsUnknown, is_known, IsLeastLine, IsNotListedOnce, IsOrphan, is_declared, is_transaction_known, has_catch_all, has_root, is_not_listed_once, is_one_too_many, most_classes, version_of, IsOneTooMany, has_catch_all_behind, is_orphan, IsMisplaced, NeedsVersion2, has_limit, is_placed}
pub use Rattle.policy_rules.specs.Entries.{entries_of, AreRising}
pub use Rattle.policy_rules.specs.Families.{IsCyclic, IsDescendant, IsTooDeep, NamesLead, ListsChild}
pub use Rattle.policy_rules.specs.Graph.{graph_of, nodes_in, family, node_in, said}
pub use Rattle.policy_rules.specs.Known.{known_programs}
pub use Rattle.policy_rules.specs.Names.{Name, declared, node_name, has, before, class_name, leaf_classes, listed, is_once, transaction_name}
pub use Rattle.policy_rules.specs.Programs.{place, programs, body_named, or_written, program_named, program_in}
pub use Rattle.policy_rules.specs.Resolved.{IsTreeIn, Declared, Resolved, classes_in, AreTreesIn, IsInnerOf, IsLeafOf, IsResolved, names_of, AreClassesOf, IsNodeOf, marks_of, IsLeafFor, ListsClass}
pub use Rattle.policy_rules.specs.declared.fault.PolicyFault.{PolicyFault}
pub use Rattle.policy_rules.specs.declared.fault.PolicyFault.TheVariants.{NoMemory, ClassLeaf, Cycle, Deep, DivZero, Misplaced, NoCatchAll, NoRoot, OldVersion, Parents, TooMany, Twice, TypeClash, Unknown, Wide}
pub use Rattle.policy_text.specs.Entries.{AreWritten, IsRising}
pub use Rattle.policy_text_defs.proofs.ValidLaws.{IsWritten_IsValid}
pub use Rattle.policy_text_defs.specs.Sense.{Entry, Sense, node, class, filter as filtered, version, each, keep, pop, push, transaction, sense_of, entry}
pub use Rattle.policy_text_defs.specs.Statements.{unset, IsName}
pub use Rattle.policy_text_defs.specs.Valid.{IsValid, AreValidAttributes, IsValidAttribute, IsValidCondition}
pub use Rattle.policy_text_defs.specs.declared.attribute.Attrs.{Attrs}
pub use Rattle.policy_text_defs.specs.declared.condition.Condition.{Condition}
pub use Rattle.policy_text_defs.specs.declared.test.Test.{Test}
pub use Rattle.policy_rules.specs.Alternatives.{alternatives_of}
pub use Rattle.policy_text_defs.specs.declared.condition.Condition.TheVariants.{Dest}
pub use Rattle.policy_text_defs.specs.declared.condition.FieldName.TheVariants.{Dport, Dscp, Proto}
pub use Rattle.policy_text_defs.specs.declared.statement.Statement.{Statement}
pub use Rattle.rank_defs.specs.Builtins.{Builtin, builtin, builtins, fifo, same_name}
pub use Rattle.rank_defs.specs.Programs.{Program}
pub use Rattle.rank_defs.specs.Shapes.{IsShaped, max_prio, max_slack, max_weight}
pub use Rattle.text_core.specs.Tokens.{most_name, is_blank}
pub use Rattle.tree_defs.proofs.Shapes.{nodes-topology, depth-topology, LeadsToLeaf-topology}
pub use Rattle.tree_defs.specs.Topology.{topology_of, Topology, topologies_of, IsBranched, complete, copies}
pub use Rattle.tree_defs.specs.Tree.{Tree, Trees, inner, more, none, Address, root_of, nodes, depth, nodes_below, IsAddressOf, most_levels, most_nodes, LeadsToLeaf, subtree_in, HasChild, LeadsBelow, count_of, depth_below, subtree}
pub use Rattle.tree_graph.proofs.GrowthLemmas.{length-rows, child-within, within-child}
pub use Rattle.tree_graph.proofs.MarkLemmas.{length-lists, given_back}
pub use Rattle.tree_graph.specs.Descent.{Graph, lists, IsBelow, IsForest, IsDeep, IsLeast, AreInRange, AreParents, IsChild, IsWithin, HasOneParent, Leads}
pub use Rattle.tree_graph.specs.Preorder.{IsTreeOf, rows, AreTreesOf, labels, rows_below, IsTreeBelow, preorder, preorder_below, starts}
pub use Rattle.tree_graph.specs.Row.{Row, row_at, row, nodes_of}
pub use Rattle.policy_core.specs.Homes.{AreHomes, ArePut, IsHome, IsLeafWith, classes_at}
pub use Rattle.policy_core.specs.Labels.{map_tree, map_trees, node_numbered, nodes_at}
pub use Rattle.policy_core.specs.Lines.{node_entries, line_at}
pub use Rattle.policy_core.specs.Made.{IsPlaceOf, Made, made, made_of, nodes_told, AreMore}
pub use Rattle.policy_core.specs.Numbering.{address_at, nodes_from, address_below, nodes_from_below, sibling_of}
pub use Rattle.policy_core.specs.Numbers.{ArePlaces}
pub use Rattle.policy_core.specs.Office.{office_lines, backup_network, exactly, of_prio, of_weight, office_statements, tcp, udp, OfficeIsAccepted, OfficesAreAlike, office_classes, office_leaves, office_nodes}
pub use Rattle.policy_core.specs.Parts.{HasCatchAll, no_program, no_policy_node, node_of, resolved, policy_node_at, tree_of, AreNumbered, HavePrograms, HavePolicyNodes, IsWhole, told}
pub use Rattle.policy_core.specs.PlaceLaws.{AreValid, IsNodeTree}
pub use Rattle.policy_core.specs.declared.parts.PolicyNode.{PolicyNode}
