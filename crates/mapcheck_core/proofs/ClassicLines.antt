-- The words of a classic line have no `-`.
use Rattle.mapcheck_core.proofs.Prelude.{◌≡◌, List, ℕ, subst, ap, [], refl, ◌∷◌, None, Some, true, false, Option, Bool, option_map, if◌then◌else◌, ◌&&◌, take, drop, codes, bytes_eq, Glyph, text, figure, sign, image_said, one_line}
use Rattle.std.specs.List.{list_all}
use Rattle.text_core.proofs.FrontLaws.{longest_token_is_taken}
use Rattle.text_core.specs.Decimals.{number_of}
use Rattle.text_core.specs.Marks.{mark_of}
use Rattle.text_core.specs.Says.{SaysFrom, said, skipped}
use Rattle.text_core.specs.Tokens.{begun, is_word_byte, token_at}
use Rattle.text_core.specs.declared.mark.Mark.{Mark}
use Rattle.text_core.specs.declared.token.TokenKind.{TokenKind}
use Rattle.text_core.specs.declared.token.TokenKind.TheVariants as k
use Rattle.policy_text_defs.specs.Words.{is_name, is_name_in}
use Rattle.policy_text_defs.specs.declared.edition.Edition.TheVariants.{Classic}
use Rattle.mapcheck_core.specs.MapEditions.{ClassicMapsHaveEachName}

-- ---- only a token of this kind means a word
no_figure : (o : Option ℕ) (w : List ℕ) → option_map figure o ≡ Some (text w) → ⊥
no_figure None w e = cc
no_figure (Some n) w e = cc

no_sign : (o : Option Mark) (w : List ℕ) → option_map sign o ≡ Some (text w) → ⊥
no_sign None w e = cc
no_sign (Some m) w e = cc

word_bytes : (kind : TokenKind) (bytes w : List ℕ) (n : ℕ) → token_at bytes ≡ Some (begun kind n) → said kind (take n bytes) ≡ Some (text w) → list_all is_word_byte w ≡ true
word_bytes k.Word bytes w n token means =
    let same : take n bytes ≡ w = cc in
    subst (λ (v : List ℕ). list_all is_word_byte v ≡ true) same ((longest_token_is_taken bytes k.Word n).0 token).token.1
word_bytes k.Number bytes w n token means = absurd (no_figure (number_of (take n bytes)) w means)
word_bytes k.Mark bytes w n token means = absurd (no_sign (mark_of (take n bytes)) w means)

-- the second word of a line
second_word : (bytes v w : List ℕ) (gs : List Glyph) → SaysFrom bytes (text v ∷ text w ∷ gs) → list_all is_word_byte w ≡ true
second_word bytes v w gs says = word_bytes says.4.0 (skipped (drop says.1 bytes)) w says.4.1 says.4.2 says.4.3

and_true : (a b : Bool) → b ≡ true → (a && b) ≡ a
and_true true b e = e
and_true false b e = refl

pub classic_maps : ClassicMapsHaveEachName
classic_maps n line [] says = refl
classic_maps n line (text v ∷ []) says = refl
classic_maps n line (text v ∷ text w ∷ gs) says =
    let name : is_name_in Classic w ≡ is_name w = and_true (is_name w) (list_all is_word_byte w) (second_word (skipped line) v w gs says) in
    ap (λ b. if bytes_eq v (codes "map") && b then option_map (one_line n w) (image_said gs) else None) name
classic_maps n line (text v ∷ figure m ∷ gs) says = refl
classic_maps n line (text v ∷ sign m ∷ gs) says = refl
classic_maps n line (figure m ∷ gs) says = refl
classic_maps n line (sign m ∷ gs) says = refl
