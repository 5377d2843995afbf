-- The names that the proofs of this crate take from outside, passed on from one place. Declares nothing.
pub use Rattle.std.proofs.Common.{◌∙◌, ap, List, ◌≡◌, sym, ℕ, [], ◌∷◌, refl, ◌++◌, take, false, Bool, length, subst, true, not, Some, ◌+◌, arith, ◌<◌, inl, inr, ◌||◌, None, get_or, true≢false, ◌≤◌, Option, cond, map, drop, ◌&&◌, position, suc, ◌≢◌, nat_lt, rules, is_some, ◌⊎◌, codes, nat_eq, IsTrue, if◌then◌else◌, option_map, tests, zero, Any, Bor, filter, unwrap_or, Contains, count_by, eqb, ◌-◌, ◌==◌, ◌^◌, ◌↔◌}
pub use Rattle.std.proofs.Math.Bool.{or-false, or-true}
pub use Rattle.std.proofs.lemmas.Bool.{cases_Bool, and_parts, cases_order, lt-ltb, eqb-false, false_from_ne_true, ltb-false, cases_eq, le-ltb, ltb-true}
pub use Rattle.std.proofs.lemmas.Bool.Decides.{nat_tests}
pub use Rattle.std.proofs.lemmas.Iterator.{YieldsList-from_slice}
pub use Rattle.std.proofs.lemmas.Iterator.Search.{position_from_yields_List, any_from_yields_List}
pub use Rattle.std.proofs.lemmas.List.{append-nil, length-append, append_assoc, take-append-drop, length-map, take_more, drop_more, get_or-take, length-take, map-append, drop-map, get_or-drop, get_or-map, get_or_at, get_or_default, length-drop, take-map, take_all, take_at, take_rest}
pub use Rattle.std.proofs.lemmas.List.Elements.{filter_map-append, filter-append, All-from_all_within, AllWithin-more, AllWithin-none, AllWithin-upto, Contains-append_right, at_read}
pub use Rattle.std.proofs.lemmas.List.Folds.{list_any-append, find_at, list_all-append, list_any_at, position_or_len_push}
pub use Rattle.std.proofs.lemmas.List.Sums.{sum_by-append, get_or-le-sum_by, passes_at_first, prefix_len-le-length, sum_by-cons, sum_by-drop_more, sum_by-take-drop, take_while-cons}
pub use Rattle.std.proofs.lemmas.Slice.Eq.{bytes_eq-Decides}
pub use Rattle.std.specs.BTreeMap.{UpdatesBy, BTreeMap}
pub use Rattle.std.specs.Cmp.Lexicographic.{nat_list_eq_equiv, slice_cmp}
pub use Rattle.std.specs.List.{cons_option, list_any, AllByRecursion, AllWithin, position_or_len, list_all, IsDistinct, prefix_len, sum_by}
pub use Rattle.std.specs.Option.{option_map_or}
pub use Rattle.std.specs.Ordering.{nat_cmp}
pub use Rattle.std.specs.Prelude.{All, filter_map, Err, IfErr, IsErrAnd, MatchResult, Ok, Result, SomeIff, find, option_and_then, slice_get}
pub use Rattle.std.specs.Str.{bytes_eq}
pub use Rattle.policy_text_defs.specs.Phrase.{Phrase, choice, negation, number, two, word, depth, phrase_of}
pub use Rattle.policy_text_defs.specs.Sense.{Entry, sense_of, Sense, class, filter as filtered, pop, push, transaction, version, each, keep, leaf, node}
pub use Rattle.policy_text_defs.specs.Valid.{IsValid, IsValidSpan}
pub use Rattle.policy_text_defs.specs.Words.{is_variable, is_name}
pub use Rattle.policy_text_defs.specs.declared.attribute.Attrs.{Attrs}
pub use Rattle.policy_text_defs.specs.declared.condition.Condition.{Condition}
pub use Rattle.policy_text_defs.specs.declared.test.Test.{Test}
pub use Rattle.policy_text_defs.specs.declared.statement.Statement.{Statement}
pub use Rattle.policy_text_defs.specs.declared.statement.Statement.TheVariants.{Each, Keep, Leaf, Node, Pop, Push, Version, Class, Filter, Transaction}
pub use Rattle.rank_defs.proofs.Faults.{checked-faultless, SomeAt-append, SomeAt-right, least-unique}
pub use Rattle.rank_defs.specs.Builtins.{builtins, Builtin, builtin, same_name}
pub use Rattle.rank_defs.specs.Checks.{AreChecked, Clashes, ClashesFirstAt, DividesByZeroFirstAt, IsWide, IsWideFirstAt, MayDivideByZero, IsChecked, IsLeastAt, NoneAt, SomeAt, entries}
pub use Rattle.rank_defs.specs.Programs.{Program, program_of, Assignment, assignments}
pub use Rattle.rank_defs.specs.Shapes.{IsShaped, AreDeclared, IsAim, IsDeclared, IsShapedAssignment, IsSpan}
pub use Rattle.rank_defs.specs.declared.transaction.Span.{Span}
pub use Rattle.policy_rules.specs.Accepted.{AreFew, IsFault}
pub use Rattle.policy_rules.specs.Bodies.{is_transaction, open_body, bodies, Body, is_body, opened, is_assignment}
pub use Rattle.policy_rules.specs.CheckedBodies.{IsSoundBody, AreSoundBehind, IsSoundLine, program_over, with_names, joined}
pub use Rattle.policy_rules.specs.Clauses.{is_declared, is_one_too_many, is_known, IsLeastLine, IsNotListedOnce, IsOrphan, NoLine, root, NeedsVersion2, are_operands_known, has_catch_all, is_placed, most_variables, IsOneTooMany, IsRepeated, has_root, IsMisplaced, IsUnknown, assignments_in, has_catch_all_behind, has_limit, is_not_listed_once, is_orphan, is_transaction_known, most_assignments, most_transactions, version_of}
pub use Rattle.policy_rules.specs.Entries.{entries_of, AreRising}
pub use Rattle.policy_rules.specs.Kept.{AreVariables, AreSpaces, IsRoom, last_sense, open_variables, is_placed_behind}
pub use Rattle.policy_rules.specs.Known.{known_programs, fault_of}
pub use Rattle.policy_rules.specs.KnownNames.{with_name, IsTally}
pub use Rattle.policy_rules.specs.Names.{Name, has, declared, is_once, listed, node_name, each_name, keep_name, variable_name, before, children, class_name, leaf_classes, transaction_name, times}
pub use Rattle.policy_rules.specs.Passes.{Passed, Fails}
pub use Rattle.policy_rules.specs.Places.{ArePlaces, texts}
pub use Rattle.policy_rules.specs.Programs.{programs, program_in, place, aim_of, each_span, keep_span, pop_in, push_in, variable_of, body_named, formula_in, or_written, program_named}
pub use Rattle.policy_rules.specs.Statements.{is_catch_all, is_root}
pub use Rattle.policy_rules.specs.declared.fault.PolicyFault.{PolicyFault}
