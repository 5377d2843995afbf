-- The names that the proofs of this crate take from outside, passed on from one place. Declares nothing.
pub use Rattle.std.proofs.Common.{List, ℕ, [], refl, ◌≡◌, ◌∷◌, Some, ◌++◌, subst, Bool, true, false, sym, None, arith, codes, ◌≤◌, ◌∙◌, Option, ap, suc, cond, zero, length, leb, ◌<◌, append_assoc, map, ◌+◌, drop, eqb, length-append, ◌-◌, option_map, take}
pub use Rattle.std.proofs.lemmas.Bool.{leb-true, le-leb, eqb-true}
pub use Rattle.std.proofs.lemmas.Bool.Decides.{nat_tests}
pub use Rattle.std.proofs.lemmas.List.{append-nil, take_all}
pub use Rattle.std.proofs.lemmas.Slice.Eq.{bytes_eq-Decides}
pub use Rattle.std.specs.Fmt.{decimal}
pub use Rattle.std.specs.List.{AllByRecursion, list_all, prefix_len, list_any, All, AllByRecursion-prop}
pub use Rattle.std.specs.Prelude.{◌&&◌, ◌||◌, ◌==◌, IfSome, nat_le, not, if◌then◌else◌, slice_index, ◌↔◌}
pub use Rattle.std.specs.Str.{bytes_eq, IsAscii, IsUtf8, all_ascii_digits}
pub use Rattle.rank_defs.specs.declared.expression.Op.{Op}
pub use Rattle.rank_defs.specs.declared.expression.Op.TheVariants.{Add, Div, Equal, Less, LessEq, More, MoreEq, Mul, NotEqual, Sub, And, Max, Min, Or}
pub use Rattle.rank_defs.specs.declared.transaction.Span.{Span}
pub use Rattle.text_core.proofs.TextLaws.{mark_of-text, says_blank_in, says_final, says_mark_in, says_name, says_number_in, says_word_in}
pub use Rattle.text_core.specs.declared.dialect.Dialect.{Dialect}
pub use Rattle.text_core.specs.Decimals.{is_numeral, number_of}
pub use Rattle.text_core.specs.Glyphs.{Glyph, text, figure, sign}
pub use Rattle.text_core.specs.Lines.{is_clean, is_clean_text, no_comment, ends_with_return, lines_of, onto_first, statement_length, statement_of, statements_of}
pub use Rattle.text_core.specs.Marks.{mark_of, mark_text}
pub use Rattle.text_core.specs.Says.{SaysIn, SaysFromIn, IsApart, skipped, ends_mark, said}
pub use Rattle.text_core.specs.Tokens.{begins_word, is_word_byte, is_run_byte, most_name, is_blank, is_digit}
pub use Rattle.text_core.specs.declared.mark.Mark.{Mark}
pub use Rattle.policy_text_defs.specs.Canonical.{is_infix, is_infix_op, octets_of, op_text, statement_text, address_text, attribute_text, attributes_text, between_text, call_text, canonical_text, condition_text, guard_text, infix_text, limit_text, more_conditions_text, names_text, range_text, span_text, term_text, wrapped}
pub use Rattle.policy_text_defs.specs.Editions.{has_conditions, has_tests, is_of, chosen, edition_at, after, last_at, edition_of, is_read, dialect_of, dialect_at}
pub use Rattle.policy_text_defs.specs.EditionNames.{has_names, has_words}
pub use Rattle.policy_text_defs.specs.Grammar.{Atom, Expression, Form, GoesOn, IsOperand, Spells, alone, call_atom, compared, ends, grouped, if_atom, more, named, not_atom, number_atom, parens_atom, variable, word_atom, AtomOver, Call, Compared, Grouped, NoForm, and_call, max_call, min_call, or_call, product_op, relation, sum_op, Product, Sum}
pub use Rattle.policy_text_defs.specs.Phrase.{Phrase, two, choice, negation, number, word, depth, most_depth, most_open}
pub use Rattle.policy_text_defs.specs.Ranges.{attribute_most, field_most, attribute_least, first_version, last_version, limit_least, limit_most, most_octet, most_prefix, most_text}
pub use Rattle.policy_text_defs.specs.Reading.{ahead, pick, pure, Outcome, Reader, ◌>>=◌, refuse, and_then, atom_at, expression, given, is_sign, literal, mark, next, atom, comparison, expect, inside, mark_at, unit_if, with_rest, word_at, ◌>>◌}
pub use Rattle.policy_text_defs.specs.Sense.{Sense, class, filter, each, keep, leaf, node, pop, push, transaction, version, Entry, entry, numbered}
pub use Rattle.policy_text_defs.specs.StatementReading.{a_number, attribute_at, word_ahead, attributes, name, number_to, repeated, a_condition, a_word, bounds, condition_by, condition_last, is_unset, limit, name_ahead, name_last, named_value, names, octets_at, protocol_by, rest_by, set_next, span, span_at, target}
pub use Rattle.policy_text_defs.specs.Statements.{IsLimit, IsName, Attributes, Guard, IsCondition, IsForm, Limit, guarded, span_tokens, unguarded, Address, AreNames, AttributesFrom, Conditions, IsTarget, Range, also, between, class_form, filter_form, dest, each_form, field, ipv4, ipv6, keep_form, last, leaf_form, no_more, node_form, pop_form, prefix, push_form, rank_target, set, single, source, transaction_form, unlimited, unset, variable_target, version_form, with_attribute, AreOctets, IsSpan, address_of, attribute_value, octet_tokens, protocol, whole, IsVersion, MaySet, Octets, IsFormAt}
pub use Rattle.policy_text_defs.specs.Text.{Carries, CarriesAt, AreWritten, Entries, IsWritten, carried, is_shaping, over, Fault, FirstFault, HasEntries, IsFault, IsSound, LineOf, blank_line, empty, here, later, not_text, shaping, statement_line, syntax_fault}
pub use Rattle.policy_text_defs.specs.Valid.{IsValid, IsValidIn, HasParts, AreValidAttributes, HasOperands, IsValidCondition, IsValidAddress, IsValidAttribute, IsValidPhrase, IsAttributeNumber, IsValidSpan}
pub use Rattle.policy_text_defs.specs.Words.{has_name, is_plain_word, is_name_byte, ends_in_dash, is_name, is_target, is_operand, is_variable, is_word, attribute_word, field_word, is_reserved, some_if, variables, attribute_of, function_of, keyword_of, protocol_of, subject_of}
pub use Rattle.policy_text_defs.specs.declared.attribute.Attribute.{Attribute}
pub use Rattle.policy_text_defs.specs.declared.attribute.Attrs.{Attrs}
pub use Rattle.policy_text_defs.specs.declared.edition.Edition.{Edition}
pub use Rattle.policy_text_defs.specs.declared.edition.Edition.TheVariants.{Classic, Third}
pub use Rattle.policy_text_defs.specs.declared.edition.Mode.{Mode}
pub use Rattle.policy_text_defs.specs.declared.edition.Mode.TheVariants.{Opening, Within}
pub use Rattle.policy_text_defs.specs.declared.condition.Condition.{Condition}
pub use Rattle.policy_text_defs.specs.declared.condition.FieldName.{FieldName}
