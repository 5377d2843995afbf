-- Bytes that spell the same tokens before any continuation, piece by piece.
use Rattle.policy_text_defs.proofs.Prelude.{List, ℕ, [], refl, ◌≡◌, ◌∷◌, ◌++◌, subst, Bool, true, false, sym, arith, codes, ◌≤◌, length, append_assoc, nat_tests, eqb-true, decimal, list_all, prefix_len, ◌&&◌, ◌||◌, ◌==◌, not, all_ascii_digits, says_mark_in, says_final, says_blank_in, says_number_in, says_name, says_word_in, is_numeral, Glyph, text, figure, sign, is_clean, no_comment, SaysIn, IsApart, ends_mark, begins_word, is_word_byte, is_run_byte, is_digit, is_word, is_plain_word, is_name_byte, ends_in_dash, has_name, dialect_of, Dialect, Edition, Classic, Third}
use Rattle.std.proofs.lemmas.List.Folds.{list_all-append}
use Rattle.text_core.specs.declared.dialect.Dialect.TheVariants as dialect
use Rattle.text_core.specs.declared.mark.Mark.TheVariants as m
use Rattle.text_core.specs.Decimals.{max}
use Rattle.text_core.proofs.DecimalLemmas.{decimal-digits, decimal-numeral}
use Rattle.policy_text_defs.proofs.TokenLaws.{both_true}

-- a set of continuations
abbrev pub Ending : Type 1
Ending = List ℕ → Type 0

abbrev pub Anything : Ending
Anything rest = Unit {0}

-- a blank
abbrev pub IsSpaced : Ending
IsSpaced rest = (more : List ℕ) × (rest ≡ 32 ∷ more)

pub apart-append : (bytes rest : List ℕ) → IsApart bytes → IsApart rest → IsApart (bytes ++ rest)
apart-append [] rest first end = end
apart-append (b ∷ bytes) rest first end = first

-- allowed in a statement, and no `#`
abbrev pub is_plain : ℕ → Bool
is_plain b = is_clean b && no_comment b

-- plain bytes that spell these tokens, followed by the tokens of any continuation in the set
pub record IsPiece (d : Dialect) (End : Ending) (bytes : List ℕ) (tokens : List Glyph) : Type 0 where
  pub plain : list_all is_plain bytes ≡ true
  pub says : (rest : List ℕ) (gs : List Glyph) → End rest → SaysIn d rest gs → SaysIn d (bytes ++ rest) (tokens ++ gs)

-- a property of each byte of a text extends to any property that follows from it
all_step : (p q : ℕ → Bool) → ((b : ℕ) → p b ≡ true → q b ≡ true) → (bs : List ℕ) → list_all p bs ≡ true → list_all q bs ≡ true
all_step p q step [] all = refl
all_step p q step (b ∷ bs) all =
    let both = both_true (p b) (list_all p bs) all in
    rw (step b both.0) (all_step p q step bs both.1)

-- a text of such bytes is one run of them
pub one_run : (p : ℕ → Bool) (bs : List ℕ) → list_all p bs ≡ true → prefix_len p bs ≡ length bs
one_run p [] all = refl
one_run p (b ∷ bs) all =
    let both = both_true (p b) (list_all p bs) all in
    let rest = one_run p bs both.1 in
    rw both.0 (omega arith)

word_byte_plain : (b : ℕ) → is_word_byte b ≡ true → is_plain b ≡ true
word_byte_plain b is = grind (arith, nat_tests)

either_plain : (u v : Bool) (b : ℕ) → u || v ≡ true → (u ≡ true → is_plain b ≡ true) → (v ≡ true → is_plain b ≡ true) → is_plain b ≡ true
either_plain true v b e left right = left refl
either_plain false v b e left right = right e

name_byte_plain : (b : ℕ) → is_name_byte b ≡ true → is_plain b ≡ true
name_byte_plain b is = either_plain (is_word_byte b) (b == 45) b is (word_byte_plain b) (λ e. subst (λ n. is_plain n ≡ true) (sym (eqb-true b 45 e)) refl)

run_case : (u v w : Bool) → u || v ≡ true → (u || w) || v ≡ true
run_case true v w e = refl
run_case false true true e = refl
run_case false true false e = refl
run_case false false w e = absurd cc

name_byte_run : (b : ℕ) → is_name_byte b ≡ true → is_run_byte b ≡ true
name_byte_run b is = run_case (is_word_byte b) (b == 45) (b == 58) is

digit_plain : (b : ℕ) → is_digit b ≡ true → is_plain b ≡ true
digit_plain b is = grind (arith, nat_tests)

digits_plain : (ds : List ℕ) → all_ascii_digits ds ≡ true → list_all is_plain ds ≡ true
digits_plain [] all = refl
digits_plain (d ∷ ds) all =
    let both = both_true (is_digit d) (all_ascii_digits ds) all in
    rw (digit_plain d both.0) (digits_plain ds both.1)

decimal_plain : (n : ℕ) → n ≤ max → list_all is_plain (decimal n) ≡ true
decimal_plain n low = digits_plain (decimal n) (decimal-digits n low)

-- two pieces in a row, if the second may follow the first
pub join : {d : Dialect} {E F : Ending} {bs cs : List ℕ} {ts us : List Glyph} → IsPiece d E bs ts → ((rest : List ℕ) → F rest → E (cs ++ rest)) → IsPiece d F cs us → IsPiece d F (bs ++ cs) (ts ++ us)
join {d} {E} {F} {bs} {cs} {ts} {us} t ends u = record {
  plain = rw (list_all-append is_plain bs cs, t.plain, u.plain) refl;
  says = λ rest gs end later.
      let all : SaysIn d (bs ++ (cs ++ rest)) (ts ++ (us ++ gs)) = t.says (cs ++ rest) (us ++ gs) (ends rest end) (u.says rest gs end later) in
      let P : List Glyph → Type 0 = λ l. SaysIn d (bs ++ (cs ++ rest)) l in
      let Q : List ℕ → Type 0 = λ l. SaysIn d l ((ts ++ us) ++ gs) in
      subst Q (sym (append_assoc bs cs rest)) (subst P (sym (append_assoc ts us gs)) all);
}

-- a piece after one that anything may follow
pub after : {d : Dialect} {F : Ending} {bs cs : List ℕ} {ts us : List Glyph} → IsPiece d Anything bs ts → IsPiece d F cs us → IsPiece d F (bs ++ cs) (ts ++ us)
after t u = join t (λ rest end. tt) u

-- a piece after one that a byte of a word may not follow
pub before : {d : Dialect} {bs cs : List ℕ} {ts us : List Glyph} → IsPiece d IsApart bs ts → IsApart cs → IsPiece d IsApart cs us → IsPiece d IsApart (bs ++ cs) (ts ++ us)
before {d} {bs} {cs} t first u = join t (λ rest end. apart-append cs rest first end) u

pub ends_early : {d : Dialect} {F : Ending} {bs : List ℕ} {ts : List Glyph} → IsPiece d Anything bs ts → IsPiece d F bs ts
ends_early t = record { plain = t.plain; says = λ rest gs end later. t.says rest gs tt later }

pub text_blank : {d : Dialect} → IsPiece d Anything (codes " ") []
text_blank {d} = record { plain = refl; says = λ rest gs end later. says_blank_in d rest gs later }

-- marks that no following byte makes longer

pub text_open : {d : Dialect} → IsPiece d Anything (codes "(") (sign m.Open ∷ [])
text_open {d} = record { plain = refl; says = λ rest gs end later. says_final d m.Open rest gs refl later }

pub text_close : {d : Dialect} → IsPiece d Anything (codes ")") (sign m.Close ∷ [])
text_close {d} = record { plain = refl; says = λ rest gs end later. says_final d m.Close rest gs refl later }

pub text_comma : {d : Dialect} → IsPiece d Anything (codes ", ") (sign m.Comma ∷ [])
text_comma {d} = record { plain = refl; says = λ rest gs end later. says_final d m.Comma (32 ∷ rest) gs refl (says_blank_in d rest gs later) }

pub text_slash : {d : Dialect} → IsPiece d Anything (codes "/") (sign m.Slash ∷ [])
text_slash {d} = record { plain = refl; says = λ rest gs end later. says_final d m.Slash rest gs refl later }

pub text_dots : {d : Dialect} → IsPiece d Anything (codes "..") (sign m.DotDot ∷ [])
text_dots {d} = record { plain = refl; says = λ rest gs end later. says_final d m.DotDot rest gs refl later }

pub text_is : {d : Dialect} → IsPiece d Anything (codes " = ") (sign m.Is ∷ [])
text_is {d} = record { plain = refl; says = λ rest gs end later. says_blank_in d (61 ∷ 32 ∷ rest) (sign m.Is ∷ gs) (says_mark_in d m.Is (32 ∷ rest) gs refl refl (says_blank_in d rest gs later)) }

-- ---- words

plain_bytes : (w : List ℕ) → is_plain_word w ≡ true → (begins_word w ≡ true) × (list_all is_word_byte w ≡ true)
plain_bytes w is = both_true (begins_word w) (list_all is_word_byte w) is

-- a word of both dialects
pub text_word : {d : Dialect} (w : List ℕ) → is_plain_word w ≡ true → IsPiece d IsApart w (text w ∷ [])
text_word {d} w is = record {
  plain = all_step is_word_byte is_plain word_byte_plain w (plain_bytes w is).1;
  says = λ rest gs end later. says_word_in d w rest gs (plain_bytes w is).0 (one_run is_word_byte w (plain_bytes w is).1) end later;
}

third_word : (w : List ℕ) → is_word w ≡ true → IsPiece dialect.Third IsApart w (text w ∷ [])
third_word w is =
    let parts = both_true (begins_word w) (list_all is_name_byte w && not (ends_in_dash w)) is in
    let bytes : list_all is_name_byte w ≡ true = (both_true (list_all is_name_byte w) (not (ends_in_dash w)) parts.1).0 in
    record {
      plain = all_step is_name_byte is_plain name_byte_plain w bytes;
      says = λ rest gs end later. says_name w rest gs parts.0 (one_run is_run_byte w (all_step is_name_byte is_run_byte name_byte_run w bytes)) end later;
    }

plain_from : (w : List ℕ) → is_word w ≡ true → list_all is_word_byte w ≡ true → is_plain_word w ≡ true
plain_from w is all =
    let begins : begins_word w ≡ true = (both_true (begins_word w) (list_all is_name_byte w && not (ends_in_dash w)) is).0 in
    rw (begins, all) refl

-- a word that may be a name of the edition
pub text_name : (e : Edition) (w : List ℕ) → is_word w ≡ true → has_name e w ≡ true → IsPiece (dialect_of e) IsApart w (text w ∷ [])
text_name Classic w is has = text_word {d = dialect.Classic} w (plain_from w is has)
text_name Third w is has = third_word w is

pub text_number : {d : Dialect} (n : ℕ) → n ≤ max → IsPiece d IsApart (decimal n) (figure n ∷ [])
text_number {d} n low = record { plain = decimal_plain n low; says = λ rest gs end later. says_number_in d n rest gs low end later }

digit_ends : (b : ℕ) → is_digit b ≡ true → not (b == 46 || b == 61) ≡ true
digit_ends b is = grind (arith, nat_tests)

numeral_ends : (ds rest : List ℕ) → is_numeral ds ≡ true → ends_mark (ds ++ rest) ≡ true
numeral_ends [] rest is = absurd cc
numeral_ends (d ∷ ds) rest is = digit_ends d (both_true (is_digit d) (all_ascii_digits ds) is).0

-- a point and the number after it
pub text_dot : {d : Dialect} (n : ℕ) → n ≤ max → IsPiece d IsApart (codes "." ++ decimal n) (sign m.Dot ∷ figure n ∷ [])
text_dot {d} n low = record {
  plain = decimal_plain n low;
  says = λ rest gs end later. says_mark_in d m.Dot (decimal n ++ rest) (figure n ∷ gs) refl (numeral_ends (decimal n) rest (decimal-numeral n low)) (says_number_in d n rest gs low end later);
}
