-- The meaning of a line's bytes as tokens.
use Rattle.std.specs.Prelude.{◌≡◌, refl, ℕ, ◌-◌, ◌==◌, Bool, true, false, not, ◌||◌, List, [], ◌∷◌, ◌++◌, map, take, drop, Option, Some, None, option_map, codes}
use Rattle.std.specs.List.{prefix_len}
use Rattle.text_core.specs.declared.token.TokenKind.{TokenKind}
use Rattle.text_core.specs.declared.token.TokenKind.TheVariants as k
use Rattle.text_core.specs.declared.token.Token.{Token}
use Rattle.text_core.specs.declared.mark.Mark.TheVariants as m
use Rattle.text_core.specs.declared.dialect.Dialect.{Dialect}
use Rattle.text_core.specs.declared.dialect.Dialect.TheVariants.{Classic, Third}
use Rattle.text_core.specs.Decimals.{number_of}
use Rattle.text_core.specs.Marks.{mark_of}
use Rattle.text_core.specs.Tokens.{is_blank, is_word_byte, is_run_byte, token_in, begun}
use Rattle.text_core.specs.Glyphs.{Glyph, text, figure, sign}

-- the meaning of a token, if any: a number above `max` has none
abbrev pub said : TokenKind → List ℕ → Option Glyph
said k.Word bytes = Some (text bytes)
said k.Number bytes = option_map figure (number_of bytes)
said k.Mark bytes = option_map sign (mark_of bytes)

-- the bytes after the leading blanks
abbrev pub skipped : List ℕ → List ℕ
skipped bs = drop (prefix_len is_blank bs) bs

-- the bytes are tokens, each the longest, with optional blanks after each, and they mean the glyphs
abbrev pub SaysFromIn : Dialect → List ℕ → List Glyph → Type 0
SaysFromIn d bytes [] = bytes ≡ []
SaysFromIn d bytes (g ∷ gs) = (kind : TokenKind) × (n : ℕ) × (token_in d bytes ≡ Some (begun kind n)) × (said kind (take n bytes) ≡ Some g) × SaysFromIn d (skipped (drop n bytes)) gs

-- the bytes of a line of this dialect mean the glyphs
abbrev pub SaysIn : Dialect → List ℕ → List Glyph → Type 0
SaysIn d bytes gs = SaysFromIn d (skipped bytes) gs

-- the same in the classic dialect
abbrev pub SaysFrom : List ℕ → List Glyph → Type 0
SaysFrom bytes gs = SaysFromIn Classic bytes gs

abbrev pub Says : List ℕ → List Glyph → Type 0
Says bytes gs = SaysIn Classic bytes gs

-- the bytes of a token's span
abbrev pub token_text : List ℕ → Token → List ℕ
token_text line t = take (t.end - t.start) (drop t.start line)

-- each token of the line means its glyph
abbrev pub AreSaid : List ℕ → List Token → List Glyph → Type 0
AreSaid line [] [] = Unit {0}
AreSaid line (t ∷ ts) (g ∷ gs) = (said t.kind (token_text line t) ≡ Some g) × AreSaid line ts gs
AreSaid line _ _ = ⊥

-- the first byte is no word byte, so a word or a number may end before these bytes
abbrev pub IsBoundary : List ℕ → Type 0
IsBoundary [] = Unit {0}
IsBoundary (b ∷ bs) = is_word_byte b ≡ false

-- the first byte is no byte of a run, so a token of either dialect may end before these bytes
abbrev pub IsApart : List ℕ → Type 0
IsApart [] = Unit {0}
IsApart (b ∷ bs) = is_run_byte b ≡ false

-- the first byte doesn't extend a mark
abbrev pub ends_mark : List ℕ → Bool
ends_mark [] = true
ends_mark (b ∷ bs) = not (b == 46 || b == 61)

-- the bytes mean the glyphs before any rest that doesn't continue a word
pub record IsTextOf (bytes : List ℕ) (glyphs : List Glyph) : Type 0 where
  pub says : (rest : List ℕ) (gs : List Glyph) → IsBoundary rest → Says rest gs → Says (bytes ++ rest) (glyphs ++ gs)

a_range : Says (codes "keep w 0..7") (text (codes "keep") ∷ text (codes "w") ∷ figure 0 ∷ sign m.DotDot ∷ figure 7 ∷ [])
a_range = (k.Word, 4, refl, refl, (k.Word, 1, refl, refl, (k.Number, 1, refl, refl, (k.Mark, 2, refl, refl, (k.Number, 1, refl, refl, refl)))))

-- only a number's value matters, and a number that is too large has no meaning; a mark is one of
-- the language's
what_tokens_say : map (said k.Number) (codes "007" ∷ codes "4611686018427387904" ∷ []) ≡ Some (figure 7) ∷ None ∷ []
what_tokens_say = refl

what_marks_say : map (said k.Mark) (codes "<=" ∷ codes "!" ∷ []) ≡ Some (sign m.LessEq) ∷ None ∷ []
what_marks_say = refl

what_words_say : said k.Word (codes "w1") ≡ Some (text (codes "w1"))
what_words_say = refl

-- blanks mean nothing at any position
blanks_say_nothing : Says (codes "\t a \t(  ") (text (codes "a") ∷ sign m.Open ∷ [])
blanks_say_nothing = (k.Word, 1, refl, refl, (k.Mark, 1, refl, refl, refl))

bytes_of_a_token : token_text (codes "a <= b") (record { kind = k.Mark; start = 2; end = 4 }) ≡ codes "<="
bytes_of_a_token = refl

-- a dot and an equals sign may extend a mark
ends_of_marks : map ends_mark (codes "." ∷ codes "=" ∷ codes "<" ∷ codes "7" ∷ codes "" ∷ []) ≡ false ∷ false ∷ true ∷ true ∷ true ∷ []
ends_of_marks = refl

a_mark_is_a_boundary : IsBoundary (codes "-a")
a_mark_is_a_boundary = refl

a_set_of_ports : SaysIn Third (codes "{80,a-b}") (sign m.OpenBrace ∷ figure 80 ∷ sign m.Comma ∷ text (codes "a-b") ∷ sign m.CloseBrace ∷ [])
a_set_of_ports = (k.Mark, 1, refl, refl, (k.Number, 2, refl, refl, (k.Mark, 1, refl, refl, (k.Word, 3, refl, refl, (k.Mark, 1, refl, refl, refl)))))
