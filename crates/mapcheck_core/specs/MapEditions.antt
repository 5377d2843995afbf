-- The lines of maps in both editions of the language.
use Rattle.std.specs.Prelude.{◌≡◌, refl, ℕ, List, [], ◌∷◌, Option, Some, None, codes}
use Rattle.text_core.specs.declared.token.TokenKind.TheVariants as k
use Rattle.text_core.specs.declared.mark.Mark.TheVariants as m
use Rattle.text_core.specs.Glyphs.{Glyph, text, figure, sign}
use Rattle.text_core.specs.Says.{Says, SaysIn}
use Rattle.policy_text_defs.specs.Editions.{dialect_of}
use Rattle.policy_text_defs.specs.Words.{is_name}
use Rattle.policy_text_defs.specs.declared.edition.Edition.{Edition}
use Rattle.policy_text_defs.specs.declared.edition.Edition.TheVariants.{Classic, Third}
use Rattle.mapcheck_core.specs.MapLines.{MapLine, map_line, line_with, one_line}

-- In the classic edition a line may have any name that isn't reserved. No word there has `-`, so the
-- edition rejects no such name.
abbrev pub ClassicMapsHaveEachName : Type 0
ClassicMapsHaveEachName = (n : ℕ) (line : List ℕ) (gs : List Glyph) → Says line gs → map_line Classic n gs ≡ line_with is_name n gs

-- what the bytes of line 1 give in an edition
abbrev pub ReadsAs : Edition → List ℕ → Option (List MapLine) → Type 0
ReadsAs e line given = (gs : List Glyph) × SaysIn (dialect_of e) line gs × (map_line e 1 gs ≡ given)

a_name_with_a_dash : ReadsAs Third (codes "map web-in 0") (Some (one_line 1 (codes "web-in") (0 ∷ [])))
a_name_with_a_dash = (text (codes "map") ∷ text (codes "web-in") ∷ figure 0 ∷ [], (k.Word, 3, refl, refl, (k.Word, 6, refl, refl, (k.Number, 1, refl, refl, refl))), refl)

-- in the classic edition the same line has `-` after the name, and more after that
no_classic_name_with_a_dash : ReadsAs Classic (codes "map web-in 0") None
no_classic_name_with_a_dash = (text (codes "map") ∷ text (codes "web") ∷ sign m.Minus ∷ text (codes "in") ∷ figure 0 ∷ [], (k.Word, 3, refl, refl, (k.Word, 3, refl, refl, (k.Mark, 1, refl, refl, (k.Word, 2, refl, refl, (k.Number, 1, refl, refl, refl))))), refl)

-- `-` directly after a name is the root's address in the classic edition, and in the third one it
-- belongs to the word, which is no name then
a_dash_ends_a_classic_name : ReadsAs Classic (codes "map a-") (Some (one_line 1 (codes "a") []))
a_dash_ends_a_classic_name = (text (codes "map") ∷ text (codes "a") ∷ sign m.Minus ∷ [], (k.Word, 3, refl, refl, (k.Word, 1, refl, refl, (k.Mark, 1, refl, refl, refl))), refl)

a_dash_at_the_end_of_a_word : ReadsAs Third (codes "map a-") None
a_dash_at_the_end_of_a_word = (text (codes "map") ∷ text (codes "a-") ∷ [], (k.Word, 3, refl, refl, (k.Word, 2, refl, refl, refl)), refl)

the_roots_address : ReadsAs Third (codes "map root -") (Some (one_line 1 (codes "root") []))
the_roots_address = (text (codes "map") ∷ text (codes "root") ∷ sign m.Minus ∷ [], (k.Word, 3, refl, refl, (k.Word, 4, refl, refl, (k.Mark, 1, refl, refl, refl))), refl)

an_address_of_two_numbers : ReadsAs Third (codes "map c 2.0") (Some (one_line 1 (codes "c") (2 ∷ 0 ∷ [])))
an_address_of_two_numbers = (text (codes "map") ∷ text (codes "c") ∷ figure 2 ∷ sign m.Dot ∷ figure 0 ∷ [], (k.Word, 3, refl, refl, (k.Word, 1, refl, refl, (k.Number, 1, refl, refl, (k.Mark, 1, refl, refl, (k.Number, 1, refl, refl, refl))))), refl)

-- the third edition reserves more words
a_later_word : ReadsAs Classic (codes "map flow 0") (Some (one_line 1 (codes "flow") (0 ∷ [])))
a_later_word = (text (codes "map") ∷ text (codes "flow") ∷ figure 0 ∷ [], (k.Word, 3, refl, refl, (k.Word, 4, refl, refl, (k.Number, 1, refl, refl, refl))), refl)

a_later_word_names_nothing : ReadsAs Third (codes "map flow 0") None
a_later_word_names_nothing = (text (codes "map") ∷ text (codes "flow") ∷ figure 0 ∷ [], (k.Word, 3, refl, refl, (k.Word, 4, refl, refl, (k.Number, 1, refl, refl, refl))), refl)
