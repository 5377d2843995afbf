-- The names that the proofs of this crate take from outside, passed on from one place. Declares nothing.
pub use Rattle.std.proofs.Common.{◌≡◌, sym, List, ℕ, subst, ◌∙◌, ap, [], refl, map, arith, ◌∷◌, None, inr, ◌+◌, Some, ◌<◌, false, length, true, ◌≤◌, inl, ◌++◌, Option, take, get_or, ◌⊎◌, Bool, drop, suc, Err, zero, Result, option_map, Ok, append_assoc, if◌then◌else◌, ◌&&◌, ltb, rules, ◌-◌, Global, Vec, below_more, cond, length-append, max, not, ◌||◌, eq-eqb, eqb, leb, min, nat_eq, nat_lt, position, ◌↔◌, ◌≢◌}
pub use Rattle.std.proofs.Math.Seq.{drop-cons, take-suc}
pub use Rattle.std.proofs.lemmas.Bool.{both_ways, and_parts, cases_Bool, cases_lt, lt-ltb, and_from, ltb-true, eqb-true, false_from_ne_true, ltb-false, cases_order, le-leb, le-ltb, leb-true, not-true, not_from_false, true_from_ne_false}
pub use Rattle.std.proofs.lemmas.List.{append-nil, map-append, get_or_default, length-map, take_all, get_or-map, take-append-drop}
pub use Rattle.std.proofs.lemmas.Result.{err_from_is_err_and, IfOk-weaker}
pub use Rattle.std.proofs.lemmas.Slice.Eq.{bytes_eq-Decides}
pub use Rattle.std.specs.List.{All, list_any, position_or_len, starts_with}
pub use Rattle.std.specs.Option.{option_to_list}
pub use Rattle.std.specs.Prelude.{codes, IfOk, MatchResult, is_some, unwrap_or}
pub use Rattle.std.specs.Str.{bytes_eq}
pub use Rattle.embed_defs.specs.Embedding.{IsEmbedding}
pub use Rattle.embed_defs.specs.Images.{image_map, image_at}
pub use Rattle.embed_defs.specs.Preorder.{number_of, HoldsImages, image_in, number_below}
pub use Rattle.text_core.proofs.SaysLaws.{Says-one, SaysIn-one}
pub use Rattle.text_core.specs.Glyphs.{glyphs_of, Glyph, text, figure, sign, glyph_of}
pub use Rattle.text_core.specs.Lines.{statements_of, line_text, is_clean_text}
pub use Rattle.text_core.specs.Says.{Says, SaysIn}
pub use Rattle.text_core.specs.declared.item.Item.{Item}
pub use Rattle.text_core.specs.declared.line.Line.{Line}
pub use Rattle.policy_text_defs.specs.Editions.{dialect_of}
pub use Rattle.policy_text_defs.specs.declared.edition.Edition.{Edition}
pub use Rattle.tree_core.specs.Shape.{topology}
pub use Rattle.tree_core.specs.declared.topo.Topo.{Topo}
pub use Rattle.tree_defs.proofs.TopologyLaws.{leaf_at, after-append, after-is, leads_to}
pub use Rattle.tree_defs.specs.Topology.{Topology, IsBranched, AreBranched, IsPrefixOf, after, complete, topologies_of, topology_of}
pub use Rattle.tree_defs.specs.Tree.{nodes, Address, inner, IsAddressOf, trees_of, more, nodes_below, none, Trees, depth, subtree, LeadsToLeaf, most_levels, most_nodes, subtree_in, SameShape, SameShapes, Tree, depth_below, option_bind}
pub use Rattle.mapcheck_core.specs.Checks.{IsLeast, breaks_at, IsFirstBroken, IsFirstPair, is_broken, is_prefix, lower_of, breaks, differ, lies_in}
pub use Rattle.mapcheck_core.specs.GivenMaps.{image_of, prefix, Breaks, IsOutside, MissesLeaf, outside, root, HoldsNowhere, IsInside, IsLeastLine, KeepsLeaves, KeepsPrefix, KeepsRoot, line_of, IsLeastPair, IsVerdict, IsWithinLimits}
pub use Rattle.mapcheck_core.specs.Known.{knows}
pub use Rattle.mapcheck_core.specs.MapLines.{line_of_entry, MapGives, MapLine, map_line, line_with, image_said, joined, one_line}
pub use Rattle.mapcheck_core.specs.MapTexts.{has, IsInNoForm, line_for, named, AreMapLines, IsMapAnswer, answer_of, missing_node, most_map_bytes, repeated_line, unknown_line, Fits, in_form, map_given, name_answer, node_answer, repeat_answer}
pub use Rattle.mapcheck_core.specs.NumberedLines.{Give, IsFirstAtFault, InNoForm, over, next}
pub use Rattle.mapcheck_core.specs.Numbers.{span_at, span_below, is_address, is_leaf, is_leaf_at}
pub use Rattle.mapcheck_core.specs.TreeReading.{read_on, may_stand, measured, walk, closed, may_begin, no_node, opened, stands, when, whole, with_leaf}
pub use Rattle.mapcheck_core.specs.TreeTexts.{IsTreeFault, nothing, IsLarge, TreeGives, TreeLine, one_tree, tree, written, AreRead, IsSmall, IsTreeLineFault, IsTreeText, at_line, large, most_tree_bytes, no_line, second, AreReadLines, written_all, IsOnlyTree, IsRead}
pub use Rattle.mapcheck_core.specs.declared.entry.Entry.{Entry}
pub use Rattle.mapcheck_core.specs.declared.fault.MapFault.{MapFault}
pub use Rattle.mapcheck_core.specs.declared.given.Given.{Given}
pub use Rattle.mapcheck_core.specs.declared.nest.Nest.{Nest}
pub use Rattle.mapcheck_core.specs.declared.tree_fault.TreeFault.{TreeFault}
pub use Rattle.mapcheck_core.specs.declared.tree_text.Found.{Found}
