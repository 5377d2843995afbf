-- The token at the start of some bytes is the longest prefix that is a token.
use Rattle.text_core.proofs.Prelude.{length, ◌≡◌, arith, ◌+◌, List, [], ap, drop, sym, ◌∷◌, subst, take, ◌∙◌, ◌≤◌, Some, refl, ℕ, true, ◌<◌, None, suc, Bool, cond, false, Option, option_map, zero, ◌&&◌, ◌||◌, ◌↔◌, eqb-true, prefix_len-le-length, prefix_len, list_all, if◌then◌else◌, ◌==◌, all_ascii_digits, is_numeral, mark_text, is_classic, begun, token_at, is_digit, is_word_byte, begins_word, is_double_mark, is_word_start, number_at, single_mark, is_mark, mark_length, Mark, TokenKind, Classic}
use Rattle.text_core.specs.declared.token.TokenKind.TheVariants as k
use Rattle.text_core.specs.declared.mark.Mark.TheVariants as m
use Rattle.text_core.specs.Laws.{IsToken, BeginsWith, LongestTokenIsTaken}
use Rattle.text_core.proofs.LineLaws.{length-take-le}
use Rattle.text_core.proofs.TextLaws.{both_left, both_right, digit_apart, digits_are}
use Rattle.text_core.proofs.TokenLaws.{same_kind, same_length}

-- ---- runs

pass-step : (p : ℕ → Bool) (b : ℕ) (bs : List ℕ) (v : Bool) → p b ≡ v → list_all p (take (prefix_len p bs) bs) ≡ true → list_all p (take (cond v (1 + prefix_len p bs) 0) (b ∷ bs)) ≡ true
pass-step p b bs false e rest = refl
pass-step p b bs true e rest =
    let one : suc (prefix_len p bs) ≡ 1 + prefix_len p bs = omega arith in
    let here : list_all p (take (suc (prefix_len p bs)) (b ∷ bs)) ≡ true = rw e rest in
    subst (λ n. list_all p (take n (b ∷ bs)) ≡ true) one here

-- each byte of a run passes the test
pub run_passes : (p : ℕ → Bool) (bs : List ℕ) → list_all p (take (prefix_len p bs) bs) ≡ true
run_passes p [] = refl
run_passes p (b ∷ bs) = pass-step p b bs (p b) refl (run_passes p bs)

-- and no longer prefix passes
pub run_longest : (p : ℕ → Bool) (bs : List ℕ) (n : ℕ) → n ≤ length bs → list_all p (take n bs) ≡ true → n ≤ prefix_len p bs
run_longest p bs zero fits all = omega arith
run_longest p [] (suc n) fits all = absurd (omega arith)
run_longest p (b ∷ bs) (suc n) fits all =
    let first : p b ≡ true = both_left (p b) (list_all p (take n bs)) all in
    let rest = run_longest p bs n (omega arith) (both_right (p b) (list_all p (take n bs)) all) in
    rw first (omega arith)

-- ---- marks

pub record IsByteMark (b : ℕ) : Type 0 where
  pub mark : Mark
  pub text : b ∷ [] ≡ mark_text mark
  pub classic : is_classic mark ≡ true

pub record IsPairMark (b c : ℕ) : Type 0 where
  pub mark : Mark
  pub text : b ∷ c ∷ [] ≡ mark_text mark
  pub classic : is_classic mark ≡ true

byte_is : (b c : ℕ) (mark : Mark) → c ∷ [] ≡ mark_text mark → is_classic mark ≡ true → b == c ≡ true → IsByteMark b
byte_is b c mark text classic e = record { mark = mark; text = ap (λ x. x ∷ []) (eqb-true b c e) ∙ text; classic = classic }

pair_is : (b c x y : ℕ) (mark : Mark) → x ∷ y ∷ [] ≡ mark_text mark → is_classic mark ≡ true → b == x ≡ true → c == y ≡ true → IsPairMark b c
pair_is b c x y mark text classic e f = record { mark = mark; text = ap (λ l. l ∷ c ∷ []) (eqb-true b x e) ∙ ap (λ l. x ∷ l ∷ []) (eqb-true c y f) ∙ text; classic = classic }

either : {A : Type 0} (u v : Bool) → u || v ≡ true → (u ≡ true → A) → (v ≡ true → A) → A
either true v e f g = f refl
either false v e f g = g e

byte_mark : (b : ℕ) → is_mark b ≡ true → IsByteMark b
byte_mark b e =
    either _ _ e (λ e. either _ _ e (λ e. either _ _ e (λ e. either _ _ e (λ e. either _ _ e (λ e. either _ _ e (λ e. either _ _ e (λ e. either _ _ e (λ e. either _ _ e (λ e. either _ _ e (byte_is b 46 m.Dot refl refl)
    (byte_is b 47 m.Slash refl refl))
    (byte_is b 43 m.Plus refl refl))
    (byte_is b 45 m.Minus refl refl))
    (byte_is b 42 m.Star refl refl))
    (byte_is b 40 m.Open refl refl))
    (byte_is b 41 m.Close refl refl))
    (byte_is b 44 m.Comma refl refl))
    (byte_is b 61 m.Is refl refl))
    (byte_is b 60 m.Less refl refl))
    (byte_is b 62 m.More refl refl)

before_equal : (b : ℕ) → b == 61 || b == 33 || b == 60 || b == 62 ≡ true → (c : ℕ) → c == 61 ≡ true → IsPairMark b c
before_equal b e c f =
    either _ _ e (λ e. either _ _ e (λ e. either _ _ e (λ e. pair_is b c 61 61 m.Equal refl refl e f)
    (λ e. pair_is b c 33 61 m.NotEqual refl refl e f))
    (λ e. pair_is b c 60 61 m.LessEq refl refl e f))
    (λ e. pair_is b c 62 61 m.MoreEq refl refl e f)

abbrev before : ℕ → Bool
before b = b == 61 || b == 33 || b == 60 || b == 62

pair_mark : (b c : ℕ) → is_double_mark b c ≡ true → IsPairMark b c
pair_mark b c e = either (b == 46 && c == 46) (before b && c == 61) e
    (λ e. pair_is b c 46 46 m.DotDot refl refl (both_left (b == 46) (c == 46) e) (both_right (b == 46) (c == 46) e))
    (λ e. before_equal b (both_left (before b) (c == 61) e) c (both_right (before b) (c == 61) e))

-- a mark of this length begins the bytes
pub record HasMark (bs : List ℕ) (n : ℕ) : Type 0 where
  pub inside : n ≤ length bs
  pub mark : Mark
  pub text : take n bs ≡ mark_text mark
  pub classic : is_classic mark ≡ true

byte_has : (b : ℕ) (bs : List ℕ) (n : ℕ) (v : Bool) → is_mark b ≡ v → (if v then Some 1 else None) ≡ Some n → HasMark (b ∷ bs) n
byte_has b bs n true e one =
    let same : 1 ≡ n = cc in
    let byte = byte_mark b e in
    subst (HasMark (b ∷ bs)) same (record { inside = omega arith; mark = byte.mark; text = byte.text; classic = byte.classic })
byte_has b bs n false e one = absurd cc

pair_has : (b c : ℕ) (bs : List ℕ) (n : ℕ) (v : Bool) → is_double_mark b c ≡ v → (if v then Some 2 else single_mark b) ≡ Some n → HasMark (b ∷ c ∷ bs) n
pair_has b c bs n true e two =
    let same : 2 ≡ n = cc in
    let pair = pair_mark b c e in
    subst (HasMark (b ∷ c ∷ bs)) same (record { inside = omega arith; mark = pair.mark; text = pair.text; classic = pair.classic })
pair_has b c bs n false e one = byte_has b (c ∷ bs) n (is_mark b) refl one

pub mark_has : (bs : List ℕ) (n : ℕ) → mark_length bs ≡ Some n → HasMark bs n
mark_has [] n e = absurd cc
mark_has (b ∷ []) n e = byte_has b [] n (is_mark b) refl e
mark_has (b ∷ c ∷ bs) n e = pair_has b c bs n (is_double_mark b c) refl e

-- there is a length, and it is at least m
abbrev pub AtLeast : ℕ → Option ℕ → Type 0
AtLeast m None = ⊥
AtLeast m (Some n) = m ≤ n

-- a mark of `suc m` bytes begins the bytes
pub record MarkFirst (b : ℕ) (bs : List ℕ) (m : ℕ) : Type 0 where
  pub start : is_word_start b ≡ false
  pub digit : is_digit b ≡ false
  pub within : AtLeast (suc m) (mark_length (b ∷ bs))

least-of : (v : Bool) (one : Option ℕ) → one ≡ Some 1 → AtLeast 1 (if v then Some 2 else one)
least-of true one e = omega arith
least-of false one e = rw e (omega arith)

pub single_least : (c : ℕ) (bs : List ℕ) → single_mark c ≡ Some 1 → AtLeast 1 (mark_length (c ∷ bs))
single_least c [] one = least-of false (single_mark c) one
single_least c (x ∷ xs) one = least-of (is_double_mark c x) (single_mark c) one

single_first : (c b : ℕ) (bs : List ℕ) (m : ℕ) → is_word_start c ≡ false → is_digit c ≡ false → single_mark c ≡ Some 1 → b ∷ take m bs ≡ c ∷ [] → m ≤ length bs → MarkFirst b bs m
single_first c b bs m start digit one text fits =
    let first : c ≡ b = cc in
    let size = ap length text in
    let count = length-take-le m bs fits in
    let none : 0 ≡ m = omega arith in
    subst (λ x. MarkFirst x bs m) first (record { start = start; digit = digit; within = subst (λ n. AtLeast (suc n) (mark_length (c ∷ bs))) none (single_least c bs one) })

double_first : (c d b : ℕ) (bs : List ℕ) (m : ℕ) → is_word_start c ≡ false → is_digit c ≡ false → is_double_mark c d ≡ true → b ∷ take m bs ≡ c ∷ d ∷ [] → m ≤ length bs → MarkFirst b bs m
double_first c d b [] m start digit two text fits =
    let size = ap length text in
    let count = length-take-le m [] fits in
    absurd (omega arith)
double_first c d b (x ∷ xs) m start digit two text fits =
    let first : c ≡ b = cc in
    let size = ap length text in
    let count = length-take-le m (x ∷ xs) fits in
    let one : m ≡ 1 = omega arith in
    let both : b ∷ x ∷ [] ≡ c ∷ d ∷ [] = subst (λ n. b ∷ take n (x ∷ xs) ≡ c ∷ d ∷ []) one text in
    let second : d ≡ x = cc in
    let within : AtLeast 2 (mark_length (c ∷ d ∷ xs)) = rw two (omega arith) in
    let here : AtLeast 2 (mark_length (c ∷ x ∷ xs)) = subst (λ y. AtLeast 2 (mark_length (c ∷ y ∷ xs))) second within in
    subst (λ y. MarkFirst y (x ∷ xs) m) first (record { start = start; digit = digit; within = subst (λ n. AtLeast (suc n) (mark_length (c ∷ x ∷ xs))) (sym one) here })

pub mark_first : (mark : Mark) (b : ℕ) (bs : List ℕ) (m : ℕ) → b ∷ take m bs ≡ mark_text mark → is_classic mark ≡ true → m ≤ length bs → MarkFirst b bs m
mark_first m.Dot b bs m text classic fits = single_first 46 b bs m refl refl refl text fits
mark_first m.Slash b bs m text classic fits = single_first 47 b bs m refl refl refl text fits
mark_first m.Plus b bs m text classic fits = single_first 43 b bs m refl refl refl text fits
mark_first m.Minus b bs m text classic fits = single_first 45 b bs m refl refl refl text fits
mark_first m.Star b bs m text classic fits = single_first 42 b bs m refl refl refl text fits
mark_first m.Open b bs m text classic fits = single_first 40 b bs m refl refl refl text fits
mark_first m.Close b bs m text classic fits = single_first 41 b bs m refl refl refl text fits
mark_first m.Comma b bs m text classic fits = single_first 44 b bs m refl refl refl text fits
mark_first m.Is b bs m text classic fits = single_first 61 b bs m refl refl refl text fits
mark_first m.Less b bs m text classic fits = single_first 60 b bs m refl refl refl text fits
mark_first m.More b bs m text classic fits = single_first 62 b bs m refl refl refl text fits
mark_first m.DotDot b bs m text classic fits = double_first 46 46 b bs m refl refl refl text fits
mark_first m.Equal b bs m text classic fits = double_first 61 61 b bs m refl refl refl text fits
mark_first m.NotEqual b bs m text classic fits = double_first 33 61 b bs m refl refl refl text fits
mark_first m.LessEq b bs m text classic fits = double_first 60 61 b bs m refl refl refl text fits
mark_first m.MoreEq b bs m text classic fits = double_first 62 61 b bs m refl refl refl text fits
mark_first m.OpenBrace b bs m text classic fits = absurd cc
mark_first m.CloseBrace b bs m text classic fits = absurd cc

pub mark_some : (mark : Mark) → [] ≡ mark_text mark → ⊥
mark_some m.Dot e = cc
mark_some m.Slash e = cc
mark_some m.Plus e = cc
mark_some m.Minus e = cc
mark_some m.Star e = cc
mark_some m.Open e = cc
mark_some m.Close e = cc
mark_some m.Comma e = cc
mark_some m.Is e = cc
mark_some m.Less e = cc
mark_some m.More e = cc
mark_some m.DotDot e = cc
mark_some m.Equal e = cc
mark_some m.NotEqual e = cc
mark_some m.LessEq e = cc
mark_some m.MoreEq e = cc
mark_some m.OpenBrace e = cc
mark_some m.CloseBrace e = cc

-- ---- prefixes

pub token_some : (kind : TokenKind) → IsToken kind [] → ⊥
token_some k.Word token = let wrong = token.0 in cc
token_some k.Number token = cc
token_some k.Mark token = mark_some token.0 token.1

-- the token of this kind and length is the longest prefix that is a token
pub record Front (bs : List ℕ) (kind : TokenKind) (n : ℕ) : Type 0 where
  pub inside : n ≤ length bs
  pub token : IsToken kind (take n bs)
  pub longest : (other : TokenKind) (m : ℕ) → m ≤ length bs → IsToken other (take m bs) → (m ≤ n) × (other ≡ kind)

pub run_some : (p : ℕ → Bool) (b : ℕ) (bs : List ℕ) → p b ≡ true → 0 < prefix_len p (b ∷ bs)
run_some p b bs first = rw first (omega arith)

begins_front : (n b : ℕ) (bs : List ℕ) → 0 < n → is_word_start b ≡ true → begins_word (take n (b ∷ bs)) ≡ true
begins_front zero b bs some start = absurd (omega arith)
begins_front (suc n) b bs some start = start

numeral_front : (n b : ℕ) (bs : List ℕ) → 0 < n → all_ascii_digits (take n (b ∷ bs)) ≡ true → is_numeral (take n (b ∷ bs)) ≡ true
numeral_front zero b bs some all = absurd (omega arith)
numeral_front (suc n) b bs some all = all

numeral_digits : (bs : List ℕ) → is_numeral bs ≡ true → all_ascii_digits bs ≡ true
numeral_digits [] e = absurd cc
numeral_digits (b ∷ bs) e = e

or_left : (u v : Bool) → u ≡ true → u || v ≡ true
or_left true v e = refl
or_left false v e = absurd cc

word_longest : (b : ℕ) (bs : List ℕ) → is_word_start b ≡ true → (other : TokenKind) (m : ℕ) → m ≤ length (b ∷ bs) → IsToken other (take m (b ∷ bs)) → (m ≤ prefix_len is_word_byte (b ∷ bs)) × (other ≡ k.Word)
word_longest b bs start k.Word m fits token = (run_longest is_word_byte (b ∷ bs) m fits token.1, refl)
word_longest b bs start k.Number zero fits token = absurd (token_some k.Number token)
word_longest b bs start k.Number (suc m) fits token =
    let apart = (digit_apart b (both_left (is_digit b) (all_ascii_digits (take m bs)) token)).0 in
    absurd cc
word_longest b bs start k.Mark zero fits token = absurd (token_some k.Mark token)
word_longest b bs start k.Mark (suc m) fits token =
    let apart = (mark_first token.0 b bs m token.1 token.2 (omega arith)).start in
    absurd cc

word_front : (b : ℕ) (bs : List ℕ) → is_word_start b ≡ true → Front (b ∷ bs) k.Word (prefix_len is_word_byte (b ∷ bs))
word_front b bs start =
    let some = run_some is_word_byte b bs (or_left (is_word_start b) (is_digit b) start) in
    record {
      inside = prefix_len-le-length is_word_byte (b ∷ bs);
      token = (begins_front (prefix_len is_word_byte (b ∷ bs)) b bs some start, run_passes is_word_byte (b ∷ bs));
      longest = word_longest b bs start;
    }

number_longest : (b : ℕ) (bs : List ℕ) → is_word_start b ≡ false → is_digit b ≡ true → (other : TokenKind) (m : ℕ) → m ≤ length (b ∷ bs) → IsToken other (take m (b ∷ bs)) → (m ≤ prefix_len is_digit (b ∷ bs)) × (other ≡ k.Number)
number_longest b bs start digit k.Word zero fits token = absurd (token_some k.Word token)
number_longest b bs start digit k.Word (suc m) fits token = let begins = token.0 in absurd cc
number_longest b bs start digit k.Number m fits token =
    (run_longest is_digit (b ∷ bs) m fits (sym (digits_are (take m (b ∷ bs))) ∙ numeral_digits (take m (b ∷ bs)) token), refl)
number_longest b bs start digit k.Mark zero fits token = absurd (token_some k.Mark token)
number_longest b bs start digit k.Mark (suc m) fits token =
    let apart = (mark_first token.0 b bs m token.1 token.2 (omega arith)).digit in
    absurd cc

number_front : (b : ℕ) (bs : List ℕ) → is_word_start b ≡ false → is_digit b ≡ true → Front (b ∷ bs) k.Number (prefix_len is_digit (b ∷ bs))
number_front b bs start digit =
    let n = prefix_len is_digit (b ∷ bs) in
    record {
      inside = prefix_len-le-length is_digit (b ∷ bs);
      token = numeral_front n b bs (run_some is_digit b bs digit) (digits_are (take n (b ∷ bs)) ∙ run_passes is_digit (b ∷ bs));
      longest = number_longest b bs start digit;
    }

-- bytes that don't begin with a letter, `_` or a digit can begin only with a mark
other_front : (b : ℕ) (bs : List ℕ) → is_word_start b ≡ false → is_digit b ≡ false → (other : TokenKind) (m : ℕ) → m ≤ length (b ∷ bs) → IsToken other (take m (b ∷ bs)) → AtLeast m (mark_length (b ∷ bs)) × (other ≡ k.Mark)
other_front b bs start digit k.Word zero fits token = absurd (token_some k.Word token)
other_front b bs start digit k.Word (suc m) fits token = let begins = token.0 in absurd cc
other_front b bs start digit k.Number zero fits token = absurd (token_some k.Number token)
other_front b bs start digit k.Number (suc m) fits token =
    let first = both_left (is_digit b) (all_ascii_digits (take m bs)) token in
    absurd cc
other_front b bs start digit k.Mark zero fits token = absurd (token_some k.Mark token)
other_front b bs start digit k.Mark (suc m) fits token = ((mark_first token.0 b bs m token.1 token.2 (omega arith)).within, refl)

mark_front : (b : ℕ) (bs : List ℕ) (n : ℕ) → is_word_start b ≡ false → is_digit b ≡ false → mark_length (b ∷ bs) ≡ Some n → Front (b ∷ bs) k.Mark n
mark_front b bs n start digit e =
    let mark = mark_has (b ∷ bs) n e in
    record {
      inside = mark.inside;
      token = (mark.mark, mark.text, mark.classic);
      longest = λ other m fits token.
          let found = other_front b bs start digit other m fits token in
          (subst (AtLeast m) e found.0, found.1);
    }

-- ---- the law

abbrev Law : List ℕ → TokenKind → ℕ → Type 0
Law bytes kind n = (token_at bytes ≡ Some (begun kind n)) ↔ BeginsWith bytes kind n

pub le_same : (n l : ℕ) → n ≤ l → (n < l → ⊥) → n ≡ l
le_same zero zero le less = refl
le_same zero (suc l) le less = absurd (less (omega arith))
le_same (suc n) zero le less = absurd (omega arith)
le_same (suc n) (suc l) le less = ap suc (le_same n l (omega arith) (λ lt. less (omega arith)))

front_length : (bs : List ℕ) (kind other : TokenKind) (n l : ℕ) → Front bs other l → BeginsWith bs kind n → (kind ≡ other) × (n ≡ l)
front_length bs kind other n l front begins =
    let found = front.longest kind n begins.inside begins.token in
    (found.1, le_same n l found.0 (λ less. begins.longest other l less front.inside front.token))

by_front : (bs : List ℕ) (kind other : TokenKind) (n l : ℕ) → token_at bs ≡ Some (begun other l) → Front bs other l → (other ≡ k.Number → begins_word (drop l bs) ≡ false) → Law bs kind n
by_front bs kind other n l at front apart =
    let taken : BeginsWith bs other l = record {
      inside = front.inside;
      token = front.token;
      longest = λ x m less fits token. let le = (front.longest x m fits token).0 in omega arith;
      apart = apart;
    } in (
      λ e.
          let kinds : other ≡ kind = same_kind Classic bs (begun other l) (begun kind n) at e in
          let lengths : l ≡ n = same_length Classic bs (begun other l) (begun kind n) at e in
          subst (λ x. BeginsWith bs x n) kinds (subst (BeginsWith bs other) lengths taken),
      λ begins.
          let same = front_length bs kind other n l front begins in
          at ∙ ap (λ x. Some (begun x l)) (sym same.0) ∙ ap (λ x. Some (begun kind x)) (sym same.1),
    )

by_none : (bs : List ℕ) (kind : TokenKind) (n : ℕ) → token_at bs ≡ None → (BeginsWith bs kind n → ⊥) → Law bs kind n
by_none bs kind n none never = (λ e. let wrong : Some (begun kind n) ≡ None = sym e ∙ none in absurd cc, λ begins. absurd (never begins))

first_of : {A : Type 0} (v : Bool) (x y : A) → v ≡ true → (if v then x else y) ≡ x
first_of true x y e = refl
first_of false x y e = absurd cc

second_of : {A : Type 0} (v w : Bool) (x y z : A) → v ≡ false → w ≡ true → (if v then x else (if w then y else z)) ≡ y
second_of true w x y z e f = absurd cc
second_of false w x y z e f = first_of w y z f

by_number : (b : ℕ) (bs : List ℕ) (kind : TokenKind) (n : ℕ) → is_word_start b ≡ false → is_digit b ≡ true → (v : Bool) → begins_word (drop (prefix_len is_digit (b ∷ bs)) (b ∷ bs)) ≡ v → Law (b ∷ bs) kind n
by_number b bs kind n start digit true e =
    let l = prefix_len is_digit (b ∷ bs) in
    let none : number_at (b ∷ bs) l ≡ None = rw e refl in
    let at : token_at (b ∷ bs) ≡ None = second_of (is_word_start b) (is_digit b) (Some (begun k.Word (prefix_len is_word_byte (b ∷ bs)))) (number_at (b ∷ bs) l) (option_map (begun k.Mark) (mark_length (b ∷ bs))) start digit ∙ none in
    by_none (b ∷ bs) kind n at (λ begins.
    let same = front_length (b ∷ bs) kind k.Number n l (number_front b bs start digit) begins in
    let apart = begins.apart same.0 in
    let there : begins_word (drop n (b ∷ bs)) ≡ true = ap (λ x. begins_word (drop x (b ∷ bs))) same.1 ∙ e in
    cc)
by_number b bs kind n start digit false e =
    let l = prefix_len is_digit (b ∷ bs) in
    let some : number_at (b ∷ bs) l ≡ Some (begun k.Number l) = rw e refl in
    let at : token_at (b ∷ bs) ≡ Some (begun k.Number l) = second_of (is_word_start b) (is_digit b) (Some (begun k.Word (prefix_len is_word_byte (b ∷ bs)))) (number_at (b ∷ bs) l) (option_map (begun k.Mark) (mark_length (b ∷ bs))) start digit ∙ some in
    by_front (b ∷ bs) kind k.Number n l at (number_front b bs start digit) (λ same. e)

by_mark : (b : ℕ) (bs : List ℕ) (kind : TokenKind) (n : ℕ) → is_word_start b ≡ false → is_digit b ≡ false → (found : Option ℕ) → mark_length (b ∷ bs) ≡ found → Law (b ∷ bs) kind n
by_mark b bs kind n start digit None e =
    let at : token_at (b ∷ bs) ≡ None = rw (start, digit) (ap (option_map (begun k.Mark)) e) in
    by_none (b ∷ bs) kind n at (λ begins. subst (AtLeast n) e (other_front b bs start digit kind n begins.inside begins.token).0)
by_mark b bs kind n start digit (Some l) e =
    let at : token_at (b ∷ bs) ≡ Some (begun k.Mark l) = rw (start, digit) (ap (option_map (begun k.Mark)) e) in
    by_front (b ∷ bs) kind k.Mark n l at (mark_front b bs l start digit e) (λ same. absurd cc)

by_class : (b : ℕ) (bs : List ℕ) (kind : TokenKind) (n : ℕ) (v w : Bool) → is_word_start b ≡ v → is_digit b ≡ w → Law (b ∷ bs) kind n
by_class b bs kind n true w start digit =
    let l = prefix_len is_word_byte (b ∷ bs) in
    let other = if is_digit b then number_at (b ∷ bs) (prefix_len is_digit (b ∷ bs)) else option_map (begun k.Mark) (mark_length (b ∷ bs)) in
    let at : token_at (b ∷ bs) ≡ Some (begun k.Word l) = first_of (is_word_start b) (Some (begun k.Word l)) other start in
    by_front (b ∷ bs) kind k.Word n l at (word_front b bs start) (λ same. absurd cc)
by_class b bs kind n false true start digit = by_number b bs kind n start digit (begins_word (drop (prefix_len is_digit (b ∷ bs)) (b ∷ bs))) refl
by_class b bs kind n false false start digit = by_mark b bs kind n start digit (mark_length (b ∷ bs)) refl

take-none : (n : ℕ) → n ≤ 0 → (kind : TokenKind) → IsToken kind (take n []) → ⊥
take-none zero fits kind token = token_some kind token
take-none (suc n) fits kind token = omega arith

pub longest_token_is_taken : LongestTokenIsTaken
longest_token_is_taken [] kind n = by_none [] kind n refl (λ begins. take-none n begins.inside kind begins.token)
longest_token_is_taken (b ∷ bs) kind n = by_class b bs kind n (is_word_start b) (is_digit b) refl refl
