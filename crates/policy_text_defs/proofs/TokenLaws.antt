-- Single tokens and short runs of them: tokens that are read, and tokens that were read.
use Rattle.policy_text_defs.proofs.Prelude.{List, ℕ, [], refl, ◌≡◌, ◌∷◌, Some, ◌++◌, subst, Bool, true, false, sym, codes, ◌≤◌, ◌∙◌, ap, cond, leb, leb-true, le-leb, bytes_eq-Decides, ◌&&◌, ◌||◌, bytes_eq, Span, Glyph, text, figure, sign, pure, refuse, given, a_number, name, number_to, a_word, span_at, target, IsName, span_tokens, IsTarget, rank_target, variable_target, IsSpan, is_name, is_target, some_if}
use Rattle.text_core.specs.declared.mark.Mark.TheVariants as m
use Rattle.policy_text_defs.specs.StatementReading.{within, named_by, target_by, spanned, span}
use Rattle.policy_text_defs.proofs.StepLaws.{steps, same_value, same_rest, marked}

pub numbered : (gs left : List Glyph) (n : ℕ) → a_number gs ≡ Some (n, left) → gs ≡ figure n ∷ left
numbered [] left n e = absurd cc
numbered (figure v ∷ gs) left n e = ap (λ l. figure v ∷ l) (same_rest v n gs left e) ∙ ap (λ u. figure u ∷ left) (same_value v n gs left e)
numbered (text w ∷ gs) left n e = absurd cc
numbered (sign s ∷ gs) left n e = absurd cc

pub a_word_was : (gs left : List Glyph) (w : List ℕ) → a_word gs ≡ Some (w, left) → gs ≡ text w ∷ left
a_word_was [] left w e = absurd cc
a_word_was (text v ∷ gs) left w e = ap (λ l. text v ∷ l) (same_rest v w gs left e) ∙ ap (λ u. text u ∷ left) (same_value v w gs left e)
a_word_was (figure n ∷ gs) left w e = absurd cc
a_word_was (sign s ∷ gs) left w e = absurd cc

-- ---- numbers up to a maximum

pub within_reads : (most n : ℕ) (gs : List Glyph) → n ≤ most → within most n gs ≡ Some (n, gs)
unfolding within
within_reads most n gs le = rw (le-leb n most le) refl

-- a number was read
pub record NumberTo (most : ℕ) (gs : List Glyph) (n : ℕ) (left : List Glyph) : Type 0 where
  pub split : gs ≡ figure n ∷ left
  pub low : n ≤ most

-- a test was passed, and the value kept
pub record Kept {A : Type 0} (v : Bool) (a b : A) (gs left : List Glyph) : Type 0 where
  pub is : v ≡ true
  pub same : a ≡ b
  pub rest : gs ≡ left

pub kept : {A : Type 0} (v : Bool) (a b : A) (gs left : List Glyph) → cond v (pure a) refuse gs ≡ Some (b, left) → Kept v a b gs left
kept true a b gs left e = record { is = refl; same = same_value a b gs left e; rest = same_rest a b gs left e }
kept false a b gs left e = absurd cc

-- a word passed a test, and a value was made of it
pub given_was : {A : Type 0} (v : Bool) (f : List ℕ → A) (w : List ℕ) (b : A) (gs left : List Glyph) → given f (some_if v w) gs ≡ Some (b, left) → Kept v (f w) b gs left
given_was true f w b gs left e = record { is = refl; same = same_value (f w) b gs left e; rest = same_rest (f w) b gs left e }
given_was false f w b gs left e = absurd cc

within_was : (most n o : ℕ) (gs left : List Glyph) → within most n gs ≡ Some (o, left) → Kept (leb n most) n o gs left
unfolding within
within_was most n o gs left e = kept (leb n most) n o gs left e

pub number_to_was : (most n : ℕ) (gs left : List Glyph) → number_to most gs ≡ Some (n, left) → NumberTo most gs n left
number_to_was most n gs left e =
    let first = steps (a_number gs) (within most) n left e in
    let passed = within_was most first.value n first.left left first.next in
    record { split = numbered gs first.left first.value first.read ∙ ap (λ l. figure first.value ∷ l) passed.rest ∙ ap (λ v. figure v ∷ left) passed.same; low = subst (λ v. v ≤ most) passed.same (leb-true first.value most passed.is) }

-- ---- names

pub named_reads : (w : List ℕ) (gs : List Glyph) → IsName w → named_by w gs ≡ Some (w, gs)
unfolding named_by
named_reads w gs is = rw is refl

-- a name was read
pub record Named (gs : List Glyph) (w : List ℕ) (left : List Glyph) : Type 0 where
  pub split : gs ≡ text w ∷ left
  pub is : IsName w

named_was : (v w : List ℕ) (gs left : List Glyph) → named_by v gs ≡ Some (w, left) → Kept (is_name v) v w gs left
unfolding named_by
named_was v w gs left e = given_was (is_name v) (λ u. u) v w gs left e

pub name_was : (w : List ℕ) (gs left : List Glyph) → name gs ≡ Some (w, left) → Named gs w left
name_was w gs left e =
    let first = steps (a_word gs) named_by w left e in
    let passed = named_was first.value w first.left left first.next in
    record { split = a_word_was gs first.left first.value first.read ∙ ap (λ l. text first.value ∷ l) passed.rest ∙ ap (λ v. text v ∷ left) passed.same; is = subst IsName passed.same passed.is }

-- ---- the target of a push

pub target_reads : (w : List ℕ) (gs : List Glyph) → IsTarget w → target_by w gs ≡ Some (w, gs)
unfolding target_by
target_reads w gs (variable_target _ is) = rw is refl
target_reads w gs rank_target = refl

pub record Targeted (gs : List Glyph) (w : List ℕ) (left : List Glyph) : Type 0 where
  pub split : gs ≡ text w ∷ left
  pub is : IsTarget w

target_by_case : (u v : Bool) (w : List ℕ) → is_name w ≡ u → bytes_eq w (codes "rank") ≡ v → (u || v) ≡ true → IsTarget w
target_by_case true v w p q e = variable_target w p
target_by_case false true w p q e = subst IsTarget (sym ((bytes_eq-Decides w (codes "rank")).0 q)) rank_target
target_by_case false false w p q e = absurd cc

target_by_was : (v w : List ℕ) (gs left : List Glyph) → target_by v gs ≡ Some (w, left) → Kept (is_name v || bytes_eq v (codes "rank")) v w gs left
unfolding target_by
target_by_was v w gs left e = given_was (is_target v) (λ u. u) v w gs left e

pub target_was : (w : List ℕ) (gs left : List Glyph) → target gs ≡ Some (w, left) → Targeted gs w left
target_was w gs left e =
    let first = steps (a_word gs) target_by w left e in
    let passed = target_by_was first.value w first.left left first.next in
    record { split = a_word_was gs first.left first.value first.read ∙ ap (λ l. text first.value ∷ l) passed.rest ∙ ap (λ v. text v ∷ left) passed.same; is = subst IsTarget passed.same (target_by_case (is_name first.value) (bytes_eq first.value (codes "rank")) first.value refl refl passed.is) }

-- ---- `LOW..HIGH = FIRST`

pub span_reads : (s : Span) (rest : List Glyph) → IsSpan s → span (span_tokens s ++ rest) ≡ Some (s, rest)
unfolding span spanned
span_reads s rest is = rw (le-leb s.low s.first is.above, le-leb s.first s.high is.below) refl

pub record Spanned (gs : List Glyph) (s : Span) (left : List Glyph) : Type 0 where
  pub split : gs ≡ span_tokens s ++ left
  pub is : IsSpan s

both_case : (u v : Bool) → (u && v) ≡ true → (u ≡ true) × (v ≡ true)
both_case true true e = (refl, refl)
both_case true false e = absurd cc
both_case false v e = absurd cc

pub both_true : (u v : Bool) → (u && v) ≡ true → (u ≡ true) × (v ≡ true)
both_true u v e = both_case u v e

spanned_was : (s t : Span) (gs left : List Glyph) → spanned s gs ≡ Some (t, left) → Kept (leb s.low s.first && leb s.first s.high) s t gs left
unfolding spanned
spanned_was s t gs left e = kept (leb s.low s.first && leb s.first s.high) s t gs left e

pub span_was : (s : Span) (gs left : List Glyph) → span gs ≡ Some (s, left) → Spanned gs s left
unfolding span
span_was s gs left e =
    let a = steps _ _ _ _ e in
    let b = steps _ _ _ _ a.next in
    let c = steps _ _ _ _ b.next in
    let d = steps _ _ _ _ c.next in
    let f = steps _ _ _ _ d.next in
    let w = spanned_was (span_at a.value c.value f.value) s f.left left f.next in
    let both = both_true (leb a.value f.value) (leb f.value c.value) w.is in
    let five : d.left ≡ figure f.value ∷ left = numbered d.left f.left f.value f.read ∙ ap (λ l. figure f.value ∷ l) w.rest in
    let four : c.left ≡ sign m.Is ∷ d.left = marked m.Is c.left d.left d.value d.read in
    let three : b.left ≡ figure c.value ∷ c.left = numbered b.left c.left c.value c.read in
    let two : a.left ≡ sign m.DotDot ∷ b.left = marked m.DotDot a.left b.left b.value b.read in
    let one : gs ≡ figure a.value ∷ a.left = numbered gs a.left a.value a.read in
    let all : gs ≡ span_tokens (span_at a.value c.value f.value) ++ left = one ∙ ap (λ l. figure a.value ∷ l) (two ∙ ap (λ l. sign m.DotDot ∷ l) (three ∙ ap (λ l. figure c.value ∷ l) (four ∙ ap (λ l. sign m.Is ∷ l) five))) in
    let made : IsSpan (span_at a.value c.value f.value) = record { above = leb-true a.value f.value both.0; below = leb-true f.value c.value both.1 } in
    record { split = all ∙ ap (λ t. span_tokens t ++ left) w.same; is = subst IsSpan w.same made }
