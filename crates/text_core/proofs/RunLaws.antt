-- The token of the third dialect at the start of some bytes is the longest prefix that is a token.
use Rattle.text_core.proofs.Prelude.{length, ◌≡◌, arith, List, [], ap, sym, ◌∷◌, subst, take, ◌∙◌, ◌≤◌, Some, refl, ℕ, true, ◌<◌, None, suc, Bool, false, Option, option_map, zero, ◌↔◌, ◌||◌, ◌==◌, eqb-true, Begun, Third, prefix_len-le-length, prefix_len, list_all, if◌then◌else◌, is_numeral, mark_text, is_classic, begun, third_token_at, run_at, run_kind, is_digit, is_word_start, is_run_byte, is_run_start, is_brace, mark_length, Mark, TokenKind}
use Rattle.text_core.specs.declared.token.TokenKind.TheVariants as k
use Rattle.text_core.specs.declared.mark.Mark.TheVariants as m
use Rattle.text_core.specs.Laws.{IsThirdToken, BeginsThird, LongestRunIsTaken, begins_run}
use Rattle.text_core.proofs.FrontLaws.{run_passes, run_longest, mark_has, mark_first, mark_some, run_some, le_same, AtLeast}
use Rattle.text_core.proofs.LineLaws.{length-take-le}
use Rattle.text_core.proofs.TextLaws.{both_left, both_right, digits_are, numeral_all, numeral_begins, if_true}
use Rattle.text_core.proofs.TokenLemmas.{run_byte}
use Rattle.text_core.proofs.TokenLaws.{same_kind, same_length}

-- ---- kinds

marks_apart : (mark : Mark) → begins_run (mark_text mark) ≡ true → ⊥
marks_apart m.Dot e = cc
marks_apart m.Slash e = cc
marks_apart m.Plus e = cc
marks_apart m.Minus e = cc
marks_apart m.Star e = cc
marks_apart m.Open e = cc
marks_apart m.Close e = cc
marks_apart m.Comma e = cc
marks_apart m.Is e = cc
marks_apart m.Less e = cc
marks_apart m.More e = cc
marks_apart m.DotDot e = cc
marks_apart m.Equal e = cc
marks_apart m.NotEqual e = cc
marks_apart m.LessEq e = cc
marks_apart m.MoreEq e = cc
marks_apart m.OpenBrace e = cc
marks_apart m.CloseBrace e = cc

-- a word or a number begins with a byte that begins a run
abbrev IsRun : TokenKind → Type 0
IsRun k.Mark = ⊥
IsRun _ = Unit {0}

run_begins : (kind : TokenKind) (w : List ℕ) → IsRun kind → IsThirdToken kind w → begins_run w ≡ true
run_begins k.Word w run token = token.0
run_begins k.Number w run token = numeral_begins w token
run_begins k.Mark w run token = absurd run

no_mark : (w : List ℕ) → IsThirdToken k.Mark w → begins_run w ≡ true → ⊥
no_mark w token begins = marks_apart token.0 (ap begins_run (sym token.1) ∙ begins)

all_digits : (w : List ℕ) → is_numeral w ≡ true → list_all is_digit w ≡ true
all_digits w token = sym (digits_are w) ∙ numeral_all w token

both_kinds : (w : List ℕ) → list_all is_digit w ≡ false → is_numeral w ≡ true → ⊥
both_kinds w some token = let all = all_digits w token in cc

-- the bytes of a token tell its kind
one_kind : (kind other : TokenKind) (w : List ℕ) → IsThirdToken kind w → IsThirdToken other w → kind ≡ other
one_kind k.Word k.Word w a b = refl
one_kind k.Number k.Number w a b = refl
one_kind k.Mark k.Mark w a b = refl
one_kind k.Word k.Number w a b = absurd (both_kinds w a.2 b)
one_kind k.Number k.Word w a b = absurd (both_kinds w b.2 a)
one_kind k.Word k.Mark w a b = absurd (no_mark w b a.0)
one_kind k.Mark k.Word w a b = absurd (no_mark w a b.0)
one_kind k.Number k.Mark w a b = absurd (no_mark w b (numeral_begins w a))
one_kind k.Mark k.Number w a b = absurd (no_mark w a (numeral_begins w b))

no_token : (kind : TokenKind) → IsThirdToken kind [] → ⊥
no_token k.Word token = let begins = token.0 in cc
no_token k.Number token = cc
no_token k.Mark token = mark_some token.0 token.1

-- ---- the token taken

-- the token of this length is the longest one
pub record Front (bs : List ℕ) (kind : TokenKind) (n : ℕ) : Type 0 where
  pub inside : n ≤ length bs
  pub token : IsThirdToken kind (take n bs)
  pub longest : (other : TokenKind) (m : ℕ) → m ≤ length bs → IsThirdToken other (take m bs) → m ≤ n

digit_run_case : (u v w x : Bool) → v ≡ true → ((u || v) || w) || x ≡ true
digit_run_case true true w x e = refl
digit_run_case false true w x e = refl
digit_run_case u false w x e = absurd cc

digit_run : (b : ℕ) → is_digit b ≡ true → is_run_byte b ≡ true
digit_run b digit = digit_run_case (is_word_start b) (is_digit b) (b == 58) (b == 45) digit

digits_run : (bs : List ℕ) → list_all is_digit bs ≡ true → list_all is_run_byte bs ≡ true
digits_run [] all = refl
digits_run (b ∷ bs) all =
    rw (digit_run b (both_left (is_digit b) (list_all is_digit bs) all)) (digits_run bs (both_right (is_digit b) (list_all is_digit bs) all))

-- a word or a number has only bytes of a run
run_bytes : (kind : TokenKind) (w : List ℕ) → IsRun kind → IsThirdToken kind w → list_all is_run_byte w ≡ true
run_bytes k.Word w run token = token.1
run_bytes k.Number w run token = digits_run w (all_digits w token)
run_bytes k.Mark w run token = absurd run

begins_front : (n b : ℕ) (bs : List ℕ) → 0 < n → is_run_start b ≡ true → begins_run (take n (b ∷ bs)) ≡ true
begins_front zero b bs some start = absurd (omega arith)
begins_front (suc n) b bs some start = start

numeral_of : (w : List ℕ) → begins_run w ≡ true → list_all is_digit w ≡ true → is_numeral w ≡ true
numeral_of [] begins all = absurd cc
numeral_of (b ∷ bs) begins all = digits_are (b ∷ bs) ∙ all

run_token : (w : List ℕ) (v : Bool) → list_all is_digit w ≡ v → begins_run w ≡ true → list_all is_run_byte w ≡ true → IsThirdToken (if v then k.Number else k.Word) w
run_token w true is begins all = numeral_of w begins is
run_token w false is begins all = (begins, all, is)

run_longest_of : (b : ℕ) (bs : List ℕ) → is_run_start b ≡ true → (other : TokenKind) (m : ℕ) → m ≤ length (b ∷ bs) → IsThirdToken other (take m (b ∷ bs)) → m ≤ prefix_len is_run_byte (b ∷ bs)
run_longest_of b bs start k.Word m fits token = run_longest is_run_byte (b ∷ bs) m fits (run_bytes k.Word (take m (b ∷ bs)) tt token)
run_longest_of b bs start k.Number m fits token = run_longest is_run_byte (b ∷ bs) m fits (run_bytes k.Number (take m (b ∷ bs)) tt token)
run_longest_of b bs start k.Mark zero fits token = absurd (no_token k.Mark token)
run_longest_of b bs start k.Mark (suc m) fits token = absurd (no_mark (b ∷ take m bs) token start)

run_front : (b : ℕ) (bs : List ℕ) → is_run_start b ≡ true → Front (b ∷ bs) (run_kind (take (prefix_len is_run_byte (b ∷ bs)) (b ∷ bs))) (prefix_len is_run_byte (b ∷ bs))
run_front b bs start =
    let n = prefix_len is_run_byte (b ∷ bs) in
    let some : 0 < n = run_some is_run_byte b bs (run_byte b start) in
    record {
      inside = prefix_len-le-length is_run_byte (b ∷ bs);
      token = run_token (take n (b ∷ bs)) (list_all is_digit (take n (b ∷ bs))) refl (begins_front n b bs some start) (run_passes is_run_byte (b ∷ bs));
      longest = run_longest_of b bs start;
    }

-- ---- marks

-- bytes that don't begin a run can begin only with a mark
other_mark : (b : ℕ) (bs : List ℕ) → is_run_start b ≡ false → (other : TokenKind) (m : ℕ) → IsThirdToken other (take (suc m) (b ∷ bs)) → (mark : Mark) × (b ∷ take m bs ≡ mark_text mark)
other_mark b bs start k.Word m token = let begins = token.0 in absurd cc
other_mark b bs start k.Number m token = let begins : is_run_start b ≡ true = numeral_begins (b ∷ take m bs) token in absurd cc
other_mark b bs start k.Mark m token = (token.0, token.1)

brace_single : (c b : ℕ) (ts : List ℕ) → b ∷ ts ≡ c ∷ [] → length ts ≡ 0
brace_single c b ts text = let size = ap length text in omega arith

brace_double : (c d b : ℕ) (ts : List ℕ) → b ∷ ts ≡ c ∷ d ∷ [] → is_brace c ≡ false → is_brace b ≡ true → length ts ≡ 0
brace_double c d b ts text plain brace =
    let first : c ≡ b = cc in
    let here : is_brace b ≡ false = subst (λ x. is_brace x ≡ false) first plain in
    absurd cc

-- a mark that begins with a brace is a brace
brace_one : (mark : Mark) (b : ℕ) (ts : List ℕ) → b ∷ ts ≡ mark_text mark → is_brace b ≡ true → length ts ≡ 0
brace_one m.Dot b ts text brace = brace_single 46 b ts text
brace_one m.Slash b ts text brace = brace_single 47 b ts text
brace_one m.Plus b ts text brace = brace_single 43 b ts text
brace_one m.Minus b ts text brace = brace_single 45 b ts text
brace_one m.Star b ts text brace = brace_single 42 b ts text
brace_one m.Open b ts text brace = brace_single 40 b ts text
brace_one m.Close b ts text brace = brace_single 41 b ts text
brace_one m.Comma b ts text brace = brace_single 44 b ts text
brace_one m.Is b ts text brace = brace_single 61 b ts text
brace_one m.Less b ts text brace = brace_single 60 b ts text
brace_one m.More b ts text brace = brace_single 62 b ts text
brace_one m.OpenBrace b ts text brace = brace_single 123 b ts text
brace_one m.CloseBrace b ts text brace = brace_single 125 b ts text
brace_one m.DotDot b ts text brace = brace_double 46 46 b ts text refl brace
brace_one m.Equal b ts text brace = brace_double 61 61 b ts text refl brace
brace_one m.NotEqual b ts text brace = brace_double 33 61 b ts text refl brace
brace_one m.LessEq b ts text brace = brace_double 60 61 b ts text refl brace
brace_one m.MoreEq b ts text brace = brace_double 62 61 b ts text refl brace

brace_here : (c b : ℕ) (ts : List ℕ) → b ∷ ts ≡ c ∷ [] → is_brace c ≡ true → is_brace b ≡ false → ⊥
brace_here c b ts text is plain =
    let first : c ≡ b = cc in
    let here : is_brace b ≡ true = subst (λ x. is_brace x ≡ true) first is in
    cc

-- a mark that begins with another byte is one of the classic dialect
classic_here : (mark : Mark) (b : ℕ) (ts : List ℕ) → b ∷ ts ≡ mark_text mark → is_brace b ≡ false → is_classic mark ≡ true
classic_here m.OpenBrace b ts text plain = absurd (brace_here 123 b ts text refl plain)
classic_here m.CloseBrace b ts text plain = absurd (brace_here 125 b ts text refl plain)
classic_here _ b ts text plain = refl

brace_mark : (u v : Bool) (b : ℕ) → (b == 123) ≡ u → (b == 125) ≡ v → u || v ≡ true → (mark : Mark) × (b ∷ [] ≡ mark_text mark)
brace_mark true v b p q e = (m.OpenBrace, ap (λ x. x ∷ []) (eqb-true b 123 p))
brace_mark false true b p q e = (m.CloseBrace, ap (λ x. x ∷ []) (eqb-true b 125 q))
brace_mark false false b p q e = absurd cc

brace_longest : (b : ℕ) (bs : List ℕ) → is_run_start b ≡ false → is_brace b ≡ true → (other : TokenKind) (m : ℕ) → m ≤ length (b ∷ bs) → IsThirdToken other (take m (b ∷ bs)) → m ≤ 1
brace_longest b bs start brace other zero fits token = omega arith
brace_longest b bs start brace other (suc m) fits token =
    let mark = other_mark b bs start other m token in
    let none : length (take m bs) ≡ 0 = brace_one mark.0 b (take m bs) mark.1 brace in
    let count = length-take-le m bs (omega arith) in
    omega arith

brace_front : (b : ℕ) (bs : List ℕ) → is_run_start b ≡ false → is_brace b ≡ true → Front (b ∷ bs) k.Mark 1
brace_front b bs start brace = record {
  inside = omega arith;
  token = brace_mark (b == 123) (b == 125) b refl refl brace;
  longest = brace_longest b bs start brace;
}

mark_least : (b : ℕ) (bs : List ℕ) → is_run_start b ≡ false → is_brace b ≡ false → (other : TokenKind) (m : ℕ) → m ≤ length (b ∷ bs) → IsThirdToken other (take m (b ∷ bs)) → AtLeast m (mark_length (b ∷ bs))
mark_least b bs start brace other zero fits token = absurd (no_token other token)
mark_least b bs start brace other (suc m) fits token =
    let mark = other_mark b bs start other m token in
    (mark_first mark.0 b bs m mark.1 (classic_here mark.0 b (take m bs) mark.1 brace) (omega arith)).within

mark_front : (b : ℕ) (bs : List ℕ) (n : ℕ) → is_run_start b ≡ false → is_brace b ≡ false → mark_length (b ∷ bs) ≡ Some n → Front (b ∷ bs) k.Mark n
mark_front b bs n start brace e =
    let has = mark_has (b ∷ bs) n e in
    record {
      inside = has.inside;
      token = (has.mark, has.text);
      longest = λ other m fits token. subst (AtLeast m) e (mark_least b bs start brace other m fits token);
    }

-- ---- the law

abbrev Law : List ℕ → TokenKind → ℕ → Type 0
Law bytes kind n = (third_token_at bytes ≡ Some (begun kind n)) ↔ BeginsThird bytes kind n

front_same : (bs : List ℕ) (kind other : TokenKind) (n l : ℕ) → Front bs other l → BeginsThird bs kind n → (kind ≡ other) × (n ≡ l)
front_same bs kind other n l front begins =
    let len : n ≡ l = le_same n l (front.longest kind n begins.inside begins.token) (λ less. begins.longest other l less front.inside front.token) in
    (one_kind kind other (take l bs) (subst (λ x. IsThirdToken kind (take x bs)) len begins.token) front.token, len)

by_front : (bs : List ℕ) (kind other : TokenKind) (n l : ℕ) → third_token_at bs ≡ Some (begun other l) → Front bs other l → Law bs kind n
by_front bs kind other n l at front =
    let taken : BeginsThird bs other l = record {
      inside = front.inside;
      token = front.token;
      longest = λ x m less fits token. let le = front.longest x m fits token in omega arith;
    } in (
      λ e.
          let kinds : other ≡ kind = same_kind Third bs (begun other l) (begun kind n) at e in
          let lengths : l ≡ n = same_length Third bs (begun other l) (begun kind n) at e in
          subst (λ x. BeginsThird bs x n) kinds (subst (BeginsThird bs other) lengths taken),
      λ begins.
          let same = front_same bs kind other n l front begins in
          at ∙ ap (λ x. Some (begun x l)) (sym same.0) ∙ ap (λ x. Some (begun kind x)) (sym same.1),
    )

by_none : (bs : List ℕ) (kind : TokenKind) (n : ℕ) → third_token_at bs ≡ None → (BeginsThird bs kind n → ⊥) → Law bs kind n
by_none bs kind n none never = (λ e. let wrong : Some (begun kind n) ≡ None = sym e ∙ none in absurd cc, λ begins. absurd (never begins))

by_mark : (b : ℕ) (bs : List ℕ) (kind : TokenKind) (n : ℕ) → is_run_start b ≡ false → is_brace b ≡ false → (found : Option ℕ) → mark_length (b ∷ bs) ≡ found → third_token_at (b ∷ bs) ≡ option_map (begun k.Mark) (mark_length (b ∷ bs)) → Law (b ∷ bs) kind n
by_mark b bs kind n start brace None e at =
    by_none (b ∷ bs) kind n (at ∙ ap (option_map (begun k.Mark)) e) (λ begins. subst (AtLeast n) e (mark_least b bs start brace kind n begins.inside begins.token))
by_mark b bs kind n start brace (Some l) e at = by_front (b ∷ bs) kind k.Mark n l (at ∙ ap (option_map (begun k.Mark)) e) (mark_front b bs l start brace e)

if_false : {A : Type 0} (v : Bool) (x y : A) → v ≡ false → (if v then x else y) ≡ y
if_false true x y e = absurd cc
if_false false x y e = refl

by_class : (b : ℕ) (bs : List ℕ) (kind : TokenKind) (n : ℕ) (v w : Bool) → is_run_start b ≡ v → is_brace b ≡ w → Law (b ∷ bs) kind n
by_class b bs kind n true w start brace =
    let l = prefix_len is_run_byte (b ∷ bs) in
    let other = if is_brace b then Some (begun k.Mark 1) else option_map (begun k.Mark) (mark_length (b ∷ bs)) in
    by_front (b ∷ bs) kind (run_kind (take l (b ∷ bs))) n l (if_true (is_run_start b) (Some (run_at (b ∷ bs) l)) other start) (run_front b bs start)
by_class b bs kind n false true start brace =
    let run : Option Begun = Some (run_at (b ∷ bs) (prefix_len is_run_byte (b ∷ bs))) in
    let mark : Option Begun = option_map (begun k.Mark) (mark_length (b ∷ bs)) in
    let other : Option Begun = if is_brace b then Some (begun k.Mark 1) else mark in
    by_front (b ∷ bs) kind k.Mark n 1 (if_false (is_run_start b) run other start ∙ if_true (is_brace b) (Some (begun k.Mark 1)) mark brace) (brace_front b bs start brace)
by_class b bs kind n false false start brace =
    let run : Option Begun = Some (run_at (b ∷ bs) (prefix_len is_run_byte (b ∷ bs))) in
    let mark : Option Begun = option_map (begun k.Mark) (mark_length (b ∷ bs)) in
    let other : Option Begun = if is_brace b then Some (begun k.Mark 1) else mark in
    by_mark b bs kind n start brace (mark_length (b ∷ bs)) refl (if_false (is_run_start b) run other start ∙ if_false (is_brace b) (Some (begun k.Mark 1)) mark brace)

take-none : (n : ℕ) → n ≤ 0 → (kind : TokenKind) → IsThirdToken kind (take n []) → ⊥
take-none zero fits kind token = no_token kind token
take-none (suc n) fits kind token = omega arith

pub longest_run_is_taken : LongestRunIsTaken
longest_run_is_taken [] kind n = by_none [] kind n refl (λ begins. take-none n begins.inside kind begins.token)
longest_run_is_taken (b ∷ bs) kind n = by_class b bs kind n (is_run_start b) (is_brace b) refl refl
