-- The steps of lines in the usual form.
use Rattle.events_core.proofs.Prelude.{sym, ◌∙◌, ◌≡◌, arith, refl, subst, ◌++◌, List, [], ap, length, ℕ, ◌∷◌, ◌≤◌, Some, drop, get_or, Bool, None, Option, bytes_eq, false, option_map, take, true, ◌-◌, append-nil, take_all, is_clean, is_clean_text, Carries, alone, counted_step, word_step, Step, Arrive, Depart, Drain, Rest}
use Rattle.std.specs.Prelude.{nat_le, IfSome, if◌then◌else◌, codes}
use Rattle.std.specs.List.{prefix_len}
use Rattle.std.specs.Str.{all_ascii_digits}
use Rattle.std.specs.Str.Parse.{digits_value}
use Rattle.std.proofs.lemmas.Bool.Decides.{nat_tests}
use Rattle.std.proofs.lemmas.Slice.Eq.{bytes_eq-Decides}
use Rattle.text_core.specs.declared.token.TokenKind.TheVariants as k
use Rattle.text_core.specs.Decimals.{max, is_numeral, number_of}
use Rattle.text_core.specs.Glyphs.{text, figure}
use Rattle.text_core.specs.Says.{Says}
use Rattle.text_core.specs.Tokens.{is_digit, is_word_byte, begins_word}
use Rattle.text_core.proofs.DecimalLemmas.{digit_range}
use Rattle.text_core.proofs.TextLaws.{both_left, both_right, digits_token, says_token, says_blank, says_word}

-- ---- a word alone

word_is : (w known : List ℕ) (here s : Step) (v : Bool) (other : Option Step) → bytes_eq w known ≡ v → Carries known (here ∷ []) → (other ≡ Some s → Carries w (s ∷ [])) → (if v then Some here else other) ≡ Some s → Carries w (s ∷ [])
word_is w known here s true other e carries next found =
    let step : here ≡ s = cc in
    let P : List ℕ → Type 0 = λ l. Carries l (s ∷ []) in
    subst P (sym ((bytes_eq-Decides w known).0 e)) (subst (λ t. Carries known (t ∷ [])) step carries)
word_is w known here s false other e carries next found = next found

word_carries : (w : List ℕ) (s : Step) → word_step w ≡ Some s → Carries w (s ∷ [])
word_carries w s found =
    word_is w (codes "a") (Arrive 1) s _ _ refl (record { clean = refl; glyphs = text (codes "a") ∷ []; says = (k.Word, 1, refl, refl, refl); form = refl })
    (λ e. word_is w (codes "d") (Depart 1) s _ _ refl (record { clean = refl; glyphs = text (codes "d") ∷ []; says = (k.Word, 1, refl, refl, refl); form = refl })
    (λ e. word_is w (codes "rest") Rest s _ _ refl (record { clean = refl; glyphs = text (codes "rest") ∷ []; says = (k.Word, 4, refl, refl, refl); form = refl })
    (λ e. word_is w (codes "drain") Drain s _ _ refl (record { clean = refl; glyphs = text (codes "drain") ∷ []; says = (k.Word, 5, refl, refl, refl); form = refl })
    (λ e. absurd cc) e) e) e) found

pub word_some : (w : List ℕ) (r : Option Step) → r ≡ word_step w → IfSome r (λ s. Carries w (s ∷ []))
word_some w None is = tt
word_some w (Some s) is = word_carries w s (sym is)

-- ---- a letter, a space and digits

digit_clean : (b : ℕ) → is_digit b ≡ true → is_clean b ≡ true
digit_clean b digit = let range = digit_range b digit in grind (arith, nat_tests)

digits_clean : (ds : List ℕ) → all_ascii_digits ds ≡ true → is_clean_text ds ≡ true
digits_clean [] all = refl
digits_clean (d ∷ ds) all =
    let first = digit_clean d (both_left (is_digit d) (all_ascii_digits ds) all) in
    let others = digits_clean ds (both_right (is_digit d) (all_ascii_digits ds) all) in
    rw (first, others) refl

numeral_digits : (ds : List ℕ) → is_numeral ds ≡ true → all_ascii_digits ds ≡ true
numeral_digits [] numeral = absurd cc
numeral_digits (d ∷ ds) numeral = numeral

number_some : (v : Bool) (m n : ℕ) → (if v then Some m else None) ≡ Some n → v ≡ true
number_some true m n e = refl
number_some false m n e = absurd cc

number_numeral : (ds : List ℕ) (n : ℕ) → number_of ds ≡ Some n → is_numeral ds ≡ true
number_numeral ds n is = both_left (is_numeral ds) (nat_le (digits_value 10 ds) max) (number_some _ _ n is)

number_says : (ds : List ℕ) (n : ℕ) → number_of ds ≡ Some n → Says ds (figure n ∷ [])
number_says ds n is =
    let token = digits_token ds [] (number_numeral ds n is) tt in
    let says : Says (ds ++ []) (figure n ∷ []) = says_token k.Number ds (figure n) [] [] token.0 token.1 (ap (option_map figure) is) refl in
    subst (λ l. Says l (figure n ∷ [])) (append-nil ds) says

letter_carries : (letter : ℕ) (ds : List ℕ) (n : ℕ) (s : Step) → is_clean letter ≡ true → begins_word (letter ∷ []) ≡ true → prefix_len is_word_byte (letter ∷ []) ≡ 1 → counted_step (letter ∷ []) n ≡ Some s → number_of ds ≡ Some n → Carries (letter ∷ 32 ∷ ds) (s ∷ [])
letter_carries letter ds n s clean begins one step is =
    let others : is_clean_text ds ≡ true = digits_clean ds (numeral_digits ds (number_numeral ds n is)) in
    record {
      clean = rw (clean, others) refl;
      glyphs = text (letter ∷ []) ∷ figure n ∷ [];
      says = says_word (letter ∷ []) (32 ∷ ds) (figure n ∷ []) begins one refl (says_blank ds (figure n ∷ []) (number_says ds n is));
      form = ap (option_map alone) step;
    }

pub counted_carries : (line : List ℕ) (letter n : ℕ) (s : Step) → is_clean letter ≡ true → begins_word (letter ∷ []) ≡ true → prefix_len is_word_byte (letter ∷ []) ≡ 1 → counted_step (letter ∷ []) n ≡ Some s → 2 ≤ length line → get_or line 0 0 ≡ letter → get_or line 1 0 ≡ 32 → number_of (take (length line - 2) (drop 2 line)) ≡ Some n → Carries line (s ∷ [])
counted_carries [] letter n s clean begins one step long first second is = absurd (omega arith)
counted_carries (b ∷ []) letter n s clean begins one step long first second is = absurd (omega arith)
counted_carries (b ∷ c ∷ ds) letter n s clean begins one step long first second is =
    let rest : take (length (b ∷ c ∷ ds) - 2) ds ≡ ds = take_all _ ds (omega arith) in
    let number : number_of ds ≡ Some n = sym (ap number_of rest) ∙ is in
    let letters : b ∷ c ∷ ds ≡ letter ∷ 32 ∷ ds = ap (λ x. x ∷ c ∷ ds) first ∙ ap (λ x. letter ∷ x ∷ ds) second in
    subst (λ l. Carries l (s ∷ [])) (sym letters) (letter_carries letter ds n s clean begins one step number)
