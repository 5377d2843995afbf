-- The meaning of words, numbers and marks in sequence is the sequence of their meanings.
use Rattle.text_core.proofs.Prelude.{length, ◌≡◌, arith, ◌+◌, List, [], ap, drop, sym, ◌∷◌, subst, take, ◌∙◌, ◌≤◌, Some, refl, ℕ, true, ◌++◌, suc, Bool, cond, if◌then◌else◌, false, option_map, ◌&&◌, ◌||◌, eqb, eqb-true, eq-eqb, nat_tests, decimal, prefix_len, list_all, ◌==◌, not, all_ascii_digits, is_numeral, max, Glyph, figure, sign, text, mark_text, mark_of, is_classic, said, Says, SaysIn, SaysFromIn, skipped, IsBoundary, IsApart, ends_mark, begun, token_at, token_in, third_token_at, run_at, run_kind, is_run_byte, is_run_start, is_brace, mark_length, Dialect, Classic, Third, is_blank, is_digit, is_word_byte, begins_word, is_double_mark, is_word_start, number_at, single_mark, Mark, TokenKind}
use Rattle.std.proofs.lemmas.List.Folds.{prefix_len-append}
use Rattle.text_core.specs.declared.token.TokenKind.TheVariants as k
use Rattle.text_core.specs.declared.mark.Mark.TheVariants as m
pub use Rattle.text_core.specs.Laws.{begins_run}
use Rattle.text_core.proofs.DecimalLemmas.{digit_range, decimal-numeral, number_of-decimal}

pub both_left : (u v : Bool) → u && v ≡ true → u ≡ true
both_left true v e = refl
both_left false v e = absurd cc

pub both_right : (u v : Bool) → u && v ≡ true → v ≡ true
both_right true v e = e
both_right false v e = absurd cc

take-front : (xs ys : List ℕ) → take (length xs) (xs ++ ys) ≡ xs
take-front [] ys = refl
take-front (x ∷ xs) ys = ap (λ l. x ∷ l) (take-front xs ys)

drop-front : (xs ys : List ℕ) → drop (length xs) (xs ++ ys) ≡ ys
drop-front [] ys = refl
drop-front (x ∷ xs) ys = drop-front xs ys

-- bytes that don't begin with a blank are unchanged
skipped-none : (b : ℕ) (bs : List ℕ) → is_blank b ≡ false → skipped (b ∷ bs) ≡ b ∷ bs
skipped-none b bs none = rw none refl

skipped-blank : (bs : List ℕ) → skipped (32 ∷ bs) ≡ skipped bs
skipped-blank bs = let one : 1 + prefix_len is_blank bs ≡ suc (prefix_len is_blank bs) = omega arith in ap (λ n. drop n (32 ∷ bs)) one

run_before : (p : ℕ → Bool) (xs ys : List ℕ) → prefix_len p xs ≡ length xs → prefix_len p ys ≡ 0 → prefix_len p (xs ++ ys) ≡ length xs
run_before p xs ys all none =
    let whole : cond (eqb (prefix_len p xs) (length xs)) (length xs + prefix_len p ys) (prefix_len p xs) ≡ length xs + prefix_len p ys = rw (eq-eqb (prefix_len p xs) (length xs) all) refl in
    let sum : length xs + prefix_len p ys ≡ length xs = omega arith in
    prefix_len-append p xs ys ∙ whole ∙ sum

neither : (u v : Bool) → (u ≡ true → ⊥) → (v ≡ true → ⊥) → u || v ≡ false
neither true v f g = absurd (f refl)
neither false true f g = absurd (g refl)
neither false false f g = refl

left_false : (u v : Bool) → u || v ≡ false → u ≡ false
left_false true v e = cc
left_false false v e = refl

right_false : (u v : Bool) → u || v ≡ false → v ≡ false
right_false true v e = absurd cc
right_false false v e = e

start_not_blank : (b : ℕ) → is_word_start b ≡ true → is_blank b ≡ false
start_not_blank b start = neither (eqb b 32) (eqb b 9)
    (λ e. let wrong : false ≡ true = subst (λ n. is_word_start n ≡ true) (eqb-true b 32 e) start in absurd cc)
    (λ e. let wrong : false ≡ true = subst (λ n. is_word_start n ≡ true) (eqb-true b 9 e) start in absurd cc)

boundary_word : (rest : List ℕ) → IsBoundary rest → prefix_len is_word_byte rest ≡ 0
boundary_word [] end = refl
boundary_word (b ∷ rest) end = rw end refl

boundary_digit : (rest : List ℕ) → IsBoundary rest → prefix_len is_digit rest ≡ 0
boundary_digit [] end = refl
boundary_digit (b ∷ rest) end = rw (right_false (is_word_start b) (is_digit b) end) refl

boundary_start : (rest : List ℕ) → IsBoundary rest → begins_word rest ≡ false
boundary_start [] end = refl
boundary_start (b ∷ rest) end = left_false (is_word_start b) (is_digit b) end

word_token : (w rest : List ℕ) → begins_word w ≡ true → prefix_len is_word_byte w ≡ length w → IsBoundary rest → token_at (w ++ rest) ≡ Some (begun k.Word (length w))
word_token [] rest begins all end = absurd cc
word_token (b ∷ bs) rest begins all end =
    let len = run_before is_word_byte (b ∷ bs) rest all (boundary_word rest end) in
    let len_here = rw begins at len in
    rw begins (ap (λ n. Some (begun k.Word n)) len_here)

word_whole : (w rest : List ℕ) → begins_word w ≡ true → skipped (w ++ rest) ≡ w ++ rest
word_whole [] rest begins = absurd cc
word_whole (b ∷ bs) rest begins = skipped-none b (bs ++ rest) (start_not_blank b begins)

-- one token, and the tokens after it
pub says_token_in : (d : Dialect) (kind : TokenKind) (w : List ℕ) (g : Glyph) (rest : List ℕ) (gs : List Glyph) → skipped (w ++ rest) ≡ w ++ rest → token_in d (w ++ rest) ≡ Some (begun kind (length w)) → said kind w ≡ Some g → SaysIn d rest gs → SaysIn d (w ++ rest) (g ∷ gs)
says_token_in d kind w g rest gs whole token is later =
    let P : List ℕ → Type 0 = λ l. SaysFromIn d l (g ∷ gs) in
    subst P (sym whole) (kind, length w, token, ap (said kind) (take-front w rest) ∙ is, subst (λ l. SaysFromIn d (skipped l) gs) (sym (drop-front w rest)) later)

pub says_token : (kind : TokenKind) (w : List ℕ) (g : Glyph) (rest : List ℕ) (gs : List Glyph) → skipped (w ++ rest) ≡ w ++ rest → token_at (w ++ rest) ≡ Some (begun kind (length w)) → said kind w ≡ Some g → Says rest gs → Says (w ++ rest) (g ∷ gs)
says_token kind w g rest gs whole token is later = says_token_in Classic kind w g rest gs whole token is later

pub says_blank_in : (d : Dialect) (bs : List ℕ) (gs : List Glyph) → SaysIn d bs gs → SaysIn d (32 ∷ bs) gs
says_blank_in d bs gs h = subst (λ l. SaysFromIn d l gs) (sym (skipped-blank bs)) h

pub says_blank : (bs : List ℕ) (gs : List Glyph) → Says bs gs → Says (32 ∷ bs) gs
says_blank bs gs h = says_blank_in Classic bs gs h

pub says_word : (w rest : List ℕ) (gs : List Glyph) → begins_word w ≡ true → prefix_len is_word_byte w ≡ length w → IsBoundary rest → Says rest gs → Says (w ++ rest) (text w ∷ gs)
says_word w rest gs begins all end later = says_token k.Word w (text w) rest gs (word_whole w rest begins) (word_token w rest begins all end) refl later

-- ---- numbers

pub digit_apart : (b : ℕ) → is_digit b ≡ true → (is_word_start b ≡ false) × (is_blank b ≡ false)
digit_apart b digit =
    let range = digit_range b digit in
    let v : is_word_start b ≡ false = grind (arith, nat_tests) in
    let w : is_blank b ≡ false = grind (arith, nat_tests) in
    (v, w)

digits_run : (ds : List ℕ) → all_ascii_digits ds ≡ true → prefix_len is_digit ds ≡ length ds
digits_run [] all = refl
digits_run (d ∷ ds) all =
    let digit : is_digit d ≡ true = both_left (is_digit d) (all_ascii_digits ds) all in
    let rest : prefix_len is_digit ds ≡ length ds = digits_run ds (both_right (is_digit d) (all_ascii_digits ds) all) in
    rw digit (omega arith)

number_token : (first : ℕ) (others rest : List ℕ) → is_digit first ≡ true → is_word_start first ≡ false → prefix_len is_digit (first ∷ others) ≡ length (first ∷ others) → IsBoundary rest → token_at ((first ∷ others) ++ rest) ≡ Some (begun k.Number (length (first ∷ others)))
number_token first others rest digit start all end =
    let len = run_before is_digit (first ∷ others) rest all (boundary_digit rest end) in
    let behind : begins_word (drop (length (first ∷ others)) ((first ∷ others) ++ rest)) ≡ false = ap begins_word (drop-front (first ∷ others) rest) ∙ boundary_start rest end in
    let found : number_at ((first ∷ others) ++ rest) (length (first ∷ others)) ≡ Some (begun k.Number (length (first ∷ others))) = rw behind refl in
    let len_here = rw digit at len in
    rw (start, digit) (ap (number_at (first ∷ (others ++ rest))) len_here ∙ found)

pub digits_token : (ds rest : List ℕ) → is_numeral ds ≡ true → IsBoundary rest → (skipped (ds ++ rest) ≡ ds ++ rest) × (token_at (ds ++ rest) ≡ Some (begun k.Number (length ds)))
digits_token [] rest all end = absurd cc
digits_token (d ∷ ds) rest all end =
    let digit = both_left (is_digit d) (all_ascii_digits ds) all in
    let apart = digit_apart d digit in
    (skipped-none d (ds ++ rest) apart.1, number_token d ds rest digit apart.0 (digits_run (d ∷ ds) all) end)

pub says_number : (n : ℕ) (rest : List ℕ) (gs : List Glyph) → n ≤ max → IsBoundary rest → Says rest gs → Says (decimal n ++ rest) (figure n ∷ gs)
says_number n rest gs low end later =
    let token = digits_token (decimal n) rest (decimal-numeral n low) end in
    says_token k.Number (decimal n) (figure n) rest gs token.0 token.1 (ap (option_map figure) (number_of-decimal n low)) later

-- ---- marks

double-none : (b c : ℕ) → not (c == 46 || c == 61) ≡ true → is_double_mark b c ≡ false
double-none b c end = grind (arith, nat_tests)

single_token : (b : ℕ) (rest : List ℕ) → is_word_start b ≡ false → is_digit b ≡ false → single_mark b ≡ Some 1 → ends_mark rest ≡ true → token_at (b ∷ rest) ≡ Some (begun k.Mark 1)
single_token b [] start digit one end = rw (start, digit) (ap (option_map (begun k.Mark)) one)
single_token b (c ∷ rest) start digit one end = rw (start, digit, double-none b c end) (ap (option_map (begun k.Mark)) one)

mark_token : (mark : Mark) (rest : List ℕ) → is_classic mark ≡ true → ends_mark rest ≡ true → token_at (mark_text mark ++ rest) ≡ Some (begun k.Mark (length (mark_text mark)))
mark_token m.Dot rest classic end = single_token 46 rest refl refl refl end
mark_token m.Slash rest classic end = single_token 47 rest refl refl refl end
mark_token m.Plus rest classic end = single_token 43 rest refl refl refl end
mark_token m.Minus rest classic end = single_token 45 rest refl refl refl end
mark_token m.Star rest classic end = single_token 42 rest refl refl refl end
mark_token m.Open rest classic end = single_token 40 rest refl refl refl end
mark_token m.Close rest classic end = single_token 41 rest refl refl refl end
mark_token m.Comma rest classic end = single_token 44 rest refl refl refl end
mark_token m.Is rest classic end = single_token 61 rest refl refl refl end
mark_token m.Less rest classic end = single_token 60 rest refl refl refl end
mark_token m.More rest classic end = single_token 62 rest refl refl refl end
mark_token m.DotDot rest classic end = refl
mark_token m.Equal rest classic end = refl
mark_token m.NotEqual rest classic end = refl
mark_token m.LessEq rest classic end = refl
mark_token m.MoreEq rest classic end = refl
mark_token m.OpenBrace rest classic end = absurd cc
mark_token m.CloseBrace rest classic end = absurd cc

mark_whole : (mark : Mark) (rest : List ℕ) → skipped (mark_text mark ++ rest) ≡ mark_text mark ++ rest
mark_whole m.Dot rest = refl
mark_whole m.Slash rest = refl
mark_whole m.Plus rest = refl
mark_whole m.Minus rest = refl
mark_whole m.Star rest = refl
mark_whole m.Open rest = refl
mark_whole m.Close rest = refl
mark_whole m.Comma rest = refl
mark_whole m.Is rest = refl
mark_whole m.Less rest = refl
mark_whole m.More rest = refl
mark_whole m.DotDot rest = refl
mark_whole m.Equal rest = refl
mark_whole m.NotEqual rest = refl
mark_whole m.LessEq rest = refl
mark_whole m.MoreEq rest = refl
mark_whole m.OpenBrace rest = refl
mark_whole m.CloseBrace rest = refl

pub mark_of-text : (mark : Mark) → mark_of (mark_text mark) ≡ Some mark
mark_of-text m.Dot = refl
mark_of-text m.Slash = refl
mark_of-text m.Plus = refl
mark_of-text m.Minus = refl
mark_of-text m.Star = refl
mark_of-text m.Open = refl
mark_of-text m.Close = refl
mark_of-text m.Comma = refl
mark_of-text m.Is = refl
mark_of-text m.Less = refl
mark_of-text m.More = refl
mark_of-text m.DotDot = refl
mark_of-text m.Equal = refl
mark_of-text m.NotEqual = refl
mark_of-text m.LessEq = refl
mark_of-text m.MoreEq = refl
mark_of-text m.OpenBrace = refl
mark_of-text m.CloseBrace = refl

pub says_mark : (mark : Mark) (rest : List ℕ) (gs : List Glyph) → is_classic mark ≡ true → ends_mark rest ≡ true → Says rest gs → Says (mark_text mark ++ rest) (sign mark ∷ gs)
says_mark mark rest gs classic end later = says_token k.Mark (mark_text mark) (sign mark) rest gs (mark_whole mark rest) (mark_token mark rest classic end) (ap (option_map sign) (mark_of-text mark)) later

-- ---- both dialects

pub if_true : {A : Type 0} (v : Bool) (x y : A) → v ≡ true → (if v then x else y) ≡ x
if_true true x y e = refl
if_true false x y e = absurd cc

apart_run : (rest : List ℕ) → IsApart rest → prefix_len is_run_byte rest ≡ 0
apart_run [] end = refl
apart_run (b ∷ rest) end = rw end refl

pub apart_boundary : (rest : List ℕ) → IsApart rest → IsBoundary rest
apart_boundary [] end = tt
apart_boundary (b ∷ rest) end = left_false (is_word_byte b) (b == 58) (left_false (is_run_start b) (b == 45) end)

-- a run before bytes that don't continue it is one token
run_token : (w rest : List ℕ) → begins_run w ≡ true → prefix_len is_run_byte w ≡ length w → IsApart rest → third_token_at (w ++ rest) ≡ Some (begun (run_kind w) (length w))
run_token [] rest begins all end = absurd cc
run_token (b ∷ bs) rest begins all end =
    let l : List ℕ = b ∷ (bs ++ rest) in
    let n = prefix_len is_run_byte l in
    let other = if is_brace b then Some (begun k.Mark 1) else option_map (begun k.Mark) (mark_length l) in
    let at : third_token_at l ≡ Some (run_at l n) = if_true (is_run_start b) (Some (run_at l n)) other begins in
    let len : n ≡ length (b ∷ bs) = run_before is_run_byte (b ∷ bs) rest all (apart_run rest end) in
    at ∙ ap (λ m. Some (run_at l m)) len ∙ ap (λ x. Some (begun (run_kind x) (length (b ∷ bs)))) (take-front (b ∷ bs) rest)

run_not_blank : (b : ℕ) → is_run_start b ≡ true → is_blank b ≡ false
run_not_blank b start = neither (eqb b 32) (eqb b 9)
    (λ e. let wrong : false ≡ true = subst (λ n. is_run_start n ≡ true) (eqb-true b 32 e) start in absurd cc)
    (λ e. let wrong : false ≡ true = subst (λ n. is_run_start n ≡ true) (eqb-true b 9 e) start in absurd cc)

run_whole : (w rest : List ℕ) → begins_run w ≡ true → skipped (w ++ rest) ≡ w ++ rest
run_whole [] rest begins = absurd cc
run_whole (b ∷ bs) rest begins = skipped-none b (bs ++ rest) (run_not_blank b begins)

pub digits_are : (bs : List ℕ) → all_ascii_digits bs ≡ list_all is_digit bs
digits_are [] = refl
digits_are (b ∷ bs) = ap (λ v. is_digit b && v) (digits_are bs)

kind_of : (w : List ℕ) (v : Bool) → list_all is_digit w ≡ v → run_kind w ≡ (if v then k.Number else k.Word)
kind_of w v e = ap (λ u. if u then k.Number else k.Word) e

-- a run that isn't a number is one word of the third dialect
pub says_run : (w rest : List ℕ) (gs : List Glyph) → begins_run w ≡ true → prefix_len is_run_byte w ≡ length w → list_all is_digit w ≡ false → IsApart rest → SaysIn Third rest gs → SaysIn Third (w ++ rest) (text w ∷ gs)
says_run w rest gs begins all word end later =
    says_token_in Third k.Word w (text w) rest gs (run_whole w rest begins) (run_token w rest begins all end ∙ ap (λ x. Some (begun x (length w))) (kind_of w false word)) refl later

start_begins : (w : List ℕ) → begins_word w ≡ true → begins_run w ≡ true
start_begins [] begins = absurd cc
start_begins (b ∷ bs) begins = rw begins refl

start_no_digit : (b : ℕ) (v : Bool) → is_word_start b ≡ true → is_digit b ≡ v → v ≡ false
start_no_digit b true start digit = let apart = (digit_apart b digit).0 in absurd cc
start_no_digit b false start digit = refl

first_false : (u v : Bool) → u ≡ false → u && v ≡ false
first_false true v e = absurd cc
first_false false v e = refl

no_numeral : (w : List ℕ) → begins_word w ≡ true → list_all is_digit w ≡ false
no_numeral [] begins = absurd cc
no_numeral (b ∷ bs) begins = first_false (is_digit b) (list_all is_digit bs) (start_no_digit b (is_digit b) begins refl)

-- a letter or `_`, and then the bytes of a run
pub says_name : (w rest : List ℕ) (gs : List Glyph) → begins_word w ≡ true → prefix_len is_run_byte w ≡ length w → IsApart rest → SaysIn Third rest gs → SaysIn Third (w ++ rest) (text w ∷ gs)
says_name w rest gs begins all end later = says_run w rest gs (start_begins w begins) all (no_numeral w begins) end later

-- a list's run is the whole list if each byte passes
word_run_case : (b : ℕ) (bs : List ℕ) (v : Bool) → (prefix_len is_word_byte bs ≡ length bs → prefix_len is_run_byte bs ≡ length bs) → is_word_byte b ≡ v → cond v (1 + prefix_len is_word_byte bs) 0 ≡ length (b ∷ bs) → prefix_len is_run_byte (b ∷ bs) ≡ length (b ∷ bs)
word_run_case b bs true later is all = let rest : prefix_len is_run_byte bs ≡ length bs = later (omega arith) in rw is (omega arith)
word_run_case b bs false later is all = absurd (omega arith)

word_run : (w : List ℕ) → prefix_len is_word_byte w ≡ length w → prefix_len is_run_byte w ≡ length w
word_run [] all = refl
word_run (b ∷ bs) all = word_run_case b bs (is_word_byte b) (word_run bs) refl all

-- a word of the classic dialect is one word of both dialects
pub says_word_in : (d : Dialect) (w rest : List ℕ) (gs : List Glyph) → begins_word w ≡ true → prefix_len is_word_byte w ≡ length w → IsApart rest → SaysIn d rest gs → SaysIn d (w ++ rest) (text w ∷ gs)
says_word_in Classic w rest gs begins all end later = says_word w rest gs begins all (apart_boundary rest end) later
says_word_in Third w rest gs begins all end later = says_name w rest gs begins (word_run w all) end later

pub digits_are_run : (ds : List ℕ) → all_ascii_digits ds ≡ true → prefix_len is_run_byte ds ≡ length ds
digits_are_run [] all = refl
digits_are_run (d ∷ ds) all =
    let digit : is_digit d ≡ true = both_left (is_digit d) (all_ascii_digits ds) all in
    let apart : is_word_start d ≡ false = (digit_apart d digit).0 in
    let rest : prefix_len is_run_byte ds ≡ length ds = digits_are_run ds (both_right (is_digit d) (all_ascii_digits ds) all) in
    rw (apart, digit) (omega arith)

pub numeral_begins : (ds : List ℕ) → is_numeral ds ≡ true → begins_run ds ≡ true
numeral_begins [] all = absurd cc
numeral_begins (d ∷ ds) all =
    let digit : is_digit d ≡ true = both_left (is_digit d) (all_ascii_digits ds) all in
    let apart : is_word_start d ≡ false = (digit_apart d digit).0 in
    rw (apart, digit) refl

pub numeral_all : (ds : List ℕ) → is_numeral ds ≡ true → all_ascii_digits ds ≡ true
numeral_all [] all = absurd cc
numeral_all (d ∷ ds) all = all

pub says_number_in : (d : Dialect) (n : ℕ) (rest : List ℕ) (gs : List Glyph) → n ≤ max → IsApart rest → SaysIn d rest gs → SaysIn d (decimal n ++ rest) (figure n ∷ gs)
says_number_in Classic n rest gs low end later = says_number n rest gs low (apart_boundary rest end) later
says_number_in Third n rest gs low end later =
    let numeral = decimal-numeral n low in
    let begins = numeral_begins (decimal n) numeral in
    let all = numeral_all (decimal n) numeral in
    says_token_in Third k.Number (decimal n) (figure n) rest gs (run_whole (decimal n) rest begins) (run_token (decimal n) rest begins (digits_are_run (decimal n) all) end ∙ ap (λ x. Some (begun x (length (decimal n)))) (kind_of (decimal n) true (sym (digits_are (decimal n)) ∙ all))) (ap (option_map figure) (number_of-decimal n low)) later

-- the marks of the classic dialect begin alike in both
third_mark : (mark : Mark) (rest : List ℕ) → is_classic mark ≡ true → third_token_at (mark_text mark ++ rest) ≡ token_at (mark_text mark ++ rest)
third_mark m.Dot rest classic = refl
third_mark m.Slash rest classic = refl
third_mark m.Plus rest classic = refl
third_mark m.Minus rest classic = refl
third_mark m.Star rest classic = refl
third_mark m.Open rest classic = refl
third_mark m.Close rest classic = refl
third_mark m.Comma rest classic = refl
third_mark m.Is rest classic = refl
third_mark m.Less rest classic = refl
third_mark m.More rest classic = refl
third_mark m.DotDot rest classic = refl
third_mark m.Equal rest classic = refl
third_mark m.NotEqual rest classic = refl
third_mark m.LessEq rest classic = refl
third_mark m.MoreEq rest classic = refl
third_mark m.OpenBrace rest classic = absurd cc
third_mark m.CloseBrace rest classic = absurd cc

pub says_mark_in : (d : Dialect) (mark : Mark) (rest : List ℕ) (gs : List Glyph) → is_classic mark ≡ true → ends_mark rest ≡ true → SaysIn d rest gs → SaysIn d (mark_text mark ++ rest) (sign mark ∷ gs)
says_mark_in Classic mark rest gs classic end later = says_mark mark rest gs classic end later
says_mark_in Third mark rest gs classic end later = says_token_in Third k.Mark (mark_text mark) (sign mark) rest gs (mark_whole mark rest) (third_mark mark rest classic ∙ mark_token mark rest classic end) (ap (option_map sign) (mark_of-text mark)) later

-- no following byte makes this mark longer
abbrev pub is_final : Mark → Bool
is_final m.DotDot = true
is_final m.Slash = true
is_final m.Plus = true
is_final m.Minus = true
is_final m.Star = true
is_final m.Open = true
is_final m.Close = true
is_final m.Comma = true
is_final m.Equal = true
is_final m.NotEqual = true
is_final m.LessEq = true
is_final m.MoreEq = true
is_final _ = false

final_token : (mark : Mark) (rest : List ℕ) → is_final mark ≡ true → token_at (mark_text mark ++ rest) ≡ Some (begun k.Mark (length (mark_text mark)))
final_token m.Slash [] final = refl
final_token m.Slash (b ∷ rest) final = refl
final_token m.Plus [] final = refl
final_token m.Plus (b ∷ rest) final = refl
final_token m.Minus [] final = refl
final_token m.Minus (b ∷ rest) final = refl
final_token m.Star [] final = refl
final_token m.Star (b ∷ rest) final = refl
final_token m.Open [] final = refl
final_token m.Open (b ∷ rest) final = refl
final_token m.Close [] final = refl
final_token m.Close (b ∷ rest) final = refl
final_token m.Comma [] final = refl
final_token m.Comma (b ∷ rest) final = refl
final_token m.DotDot rest final = refl
final_token m.Equal rest final = refl
final_token m.NotEqual rest final = refl
final_token m.LessEq rest final = refl
final_token m.MoreEq rest final = refl
final_token m.Dot rest final = absurd cc
final_token m.Is rest final = absurd cc
final_token m.Less rest final = absurd cc
final_token m.More rest final = absurd cc
final_token m.OpenBrace rest final = absurd cc
final_token m.CloseBrace rest final = absurd cc

final_classic : (mark : Mark) → is_final mark ≡ true → is_classic mark ≡ true
final_classic m.OpenBrace final = absurd cc
final_classic m.CloseBrace final = absurd cc
final_classic _ final = refl

-- such a mark before any bytes
pub says_final : (d : Dialect) (mark : Mark) (rest : List ℕ) (gs : List Glyph) → is_final mark ≡ true → SaysIn d rest gs → SaysIn d (mark_text mark ++ rest) (sign mark ∷ gs)
says_final Classic mark rest gs final later = says_token_in Classic k.Mark (mark_text mark) (sign mark) rest gs (mark_whole mark rest) (final_token mark rest final) (ap (option_map sign) (mark_of-text mark)) later
says_final Third mark rest gs final later = says_token_in Third k.Mark (mark_text mark) (sign mark) rest gs (mark_whole mark rest) (third_mark mark rest (final_classic mark final) ∙ final_token mark rest final) (ap (option_map sign) (mark_of-text mark)) later

-- braces before any bytes
pub says_open_brace : (rest : List ℕ) (gs : List Glyph) → SaysIn Third rest gs → SaysIn Third (123 ∷ rest) (sign m.OpenBrace ∷ gs)
says_open_brace rest gs later = says_token_in Third k.Mark (123 ∷ []) (sign m.OpenBrace) rest gs refl refl refl later

pub says_close_brace : (rest : List ℕ) (gs : List Glyph) → SaysIn Third rest gs → SaysIn Third (125 ∷ rest) (sign m.CloseBrace ∷ gs)
says_close_brace rest gs later = says_token_in Third k.Mark (125 ∷ []) (sign m.CloseBrace) rest gs refl refl refl later
