-- The names that the proofs of this crate take from outside, passed on from one place. Declares nothing.
pub use Rattle.std.proofs.Common.{length, ◌≡◌, arith, ◌+◌, List, [], ap, drop, sym, ◌∷◌, subst, take, ◌∙◌, ◌≤◌, Some, refl, ℕ, ◌-◌, true, ◌++◌, ◌<◌, None, suc, Bool, cond, false, get_or, length-drop, Option, inl, option_map, zero, ◌&&◌, ◌||◌, Err, inr, ◌⊎◌, eqb, map, rules, ◌*◌, ◌/◌, ◌↔◌}
pub use Rattle.std.proofs.lemmas.Bool.{eqb-true, eq-eqb, le-leb, lt-leb}
pub use Rattle.std.proofs.lemmas.Bool.Decides.{nat_tests}
pub use Rattle.std.proofs.lemmas.List.{take_all, append-nil, map-append}
pub use Rattle.std.proofs.lemmas.List.Sums.{prefix_len-le-length}
pub use Rattle.std.specs.Fmt.{decimal}
pub use Rattle.std.specs.List.{prefix_len, All, list_all, AllByRecursion}
pub use Rattle.std.specs.Prelude.{if◌then◌else◌, ◌==◌, nat_le, not}
pub use Rattle.std.specs.Str.{all_ascii_digits}
pub use Rattle.text_core.specs.Decimals.{is_numeral, max, number_of}
pub use Rattle.text_core.specs.Glyphs.{Glyph, glyphs_of, figure, glyph_of, sign, text}
pub use Rattle.text_core.specs.Lines.{Follow, is_text, line_at, statement_length, IsMarked, LiesIn, is_clean, is_clean_text, line_text, lines_of, no_comment, onto_first, statement_of, statements_of}
pub use Rattle.text_core.specs.Marks.{mark_text, mark_of, is_classic}
pub use Rattle.text_core.specs.Says.{AreSaid, said, Says, SaysFrom, SaysIn, SaysFromIn, skipped, token_text, IsBoundary, IsApart, ends_mark}
pub use Rattle.text_core.specs.Tokens.{Stand, StandIn, IsFaultIn, IsBadIn, begun, token_at, token_in, third_token_at, run_at, run_kind, is_run_byte, is_run_start, is_brace, after_blanks, is_blank, is_digit, is_word_byte, IsFaultOf, begins_word, is_double_mark, is_word_start, number_at, single_mark, Begun, StandsIn, is_mark, mark_length}
pub use Rattle.text_core.specs.declared.dialect.Dialect.{Dialect}
pub use Rattle.text_core.specs.declared.dialect.Dialect.TheVariants.{Classic, Third}
pub use Rattle.text_core.specs.declared.line.Line.{Line}
pub use Rattle.text_core.specs.declared.mark.Mark.{Mark}
pub use Rattle.text_core.specs.declared.token.Token.{Token}
pub use Rattle.text_core.specs.declared.token.TokenKind.{TokenKind}
