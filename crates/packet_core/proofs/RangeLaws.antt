-- Ranges in the order of their least values, each as long as any before it.
use Rattle.std.specs.Prelude.{◌≡◌, ℕ, ◌+◌, ◌-◌, ◌≤◌, ◌<◌, max, Bool, true, false, ◌&&◌, ◌||◌, List, [], ◌∷◌, ◌++◌, length, zero, suc, refl}
use Rattle.std.specs.List.{list_any}
use Rattle.std.specs.List.Sorted.{IsNonDecreasingBy, IsPermutation}
use Rattle.std.proofs.Common.{sym, ◌∙◌, ap, arith, leb, get_or, drop, true≢false, inl, inr}
use Rattle.std.proofs.Math.Nat.{le-max_left, le-max_right, max-eq_left, max-eq_right}
use Rattle.std.proofs.lemmas.Bool.{le-leb, leb-true, lt-leb, leb-false, and_left, and_right, cases_lt}
use Rattle.std.proofs.lemmas.List.{append_assoc, drop_more, get_or_default}
use Rattle.std.proofs.lemmas.List.Folds.{list_any_at, list_any_none}
use Rattle.std.proofs.lemmas.List.Sorted.{list_any-IsPermutation, IsNonDecreasingBy-drop}
use Rattle.policy_text_defs.specs.declared.test.Range.{Range}
use Rattle.packet_defs.specs.Test.{is_among}
use Rattle.packet_core.specs.Ranges.{low, high, values}

-- the value is in the range
abbrev within : ℕ → Range → Bool
within v r = leb r.low v && leb v r.high

within-is : (v : ℕ) (r : Range) → within v r ≡ (leb r.low v && leb v r.high)
within-is v r = refl

pub among-values : (v : ℕ) (rs : List Range) → is_among (values rs) v ≡ list_any (within v) rs
among-values v [] = refl
among-values v (r ∷ rs) = ap (λ b. (leb r.low v && leb v r.high) || b) (among-values v rs)

pub among-permuted : (rs ss : List Range) (v : ℕ) → IsPermutation rs ss → is_among (values ss) v ≡ is_among (values rs) v
among-permuted rs ss v same = among-values v ss ∙ sym (list_any-IsPermutation (within v) rs ss same) ∙ sym (among-values v rs)

-- each range reaches as far as any before it, and as `reach`
abbrev pub running : ℕ → List Range → List Range
running reach [] = []
running reach (r ∷ rs) = record { low = r.low; high = max r.high reach } ∷ running (max r.high reach) rs

pub running-length : (reach : ℕ) (rs : List Range) → length (running reach rs) ≡ length rs
running-length reach [] = refl
running-length reach (r ∷ rs) = ap suc (running-length (max r.high reach) rs)

running-low : (reach : ℕ) (rs : List Range) (i : ℕ) (d : Range) → low (get_or (running reach rs) i d) ≡ low (get_or rs i d)
running-low reach [] i d = refl
running-low reach (r ∷ rs) zero d = refl
running-low reach (r ∷ rs) (suc i) d = running-low (max r.high reach) rs i d

pub running-lows : (rs : List Range) → IsNonDecreasingBy low rs → IsNonDecreasingBy low (running 0 rs)
running-lows rs up i j d le less =
    let e = running-low 0 rs i d in
    let f = running-low 0 rs j d in
    let g = up i j d le (omega (arith, less, running-length 0 rs)) in
    omega (arith, e, f, g)

running-reach : (reach : ℕ) (rs : List Range) (i : ℕ) (d : Range) → i < length (running reach rs) → reach ≤ high (get_or (running reach rs) i d)
running-reach reach [] i d less = absurd (omega (arith, less))
running-reach reach (r ∷ rs) zero d less = le-max_right r.high reach
running-reach reach (r ∷ rs) (suc i) d less =
    let m = le-max_right r.high reach in
    let e = running-reach (max r.high reach) rs i d (omega (arith, less)) in
    omega (arith, m, e)

running-high : (reach : ℕ) (rs : List Range) (i j : ℕ) (d : Range) → i ≤ j → j < length (running reach rs) → high (get_or (running reach rs) i d) ≤ high (get_or (running reach rs) j d)
running-high reach [] i j d le less = absurd (omega (arith, less))
running-high reach (r ∷ rs) zero zero d le less = omega arith
running-high reach (r ∷ rs) zero (suc j) d le less = running-reach (max r.high reach) rs j d (omega (arith, less))
running-high reach (r ∷ rs) (suc i) zero d le less = absurd (omega (arith, le))
running-high reach (r ∷ rs) (suc i) (suc j) d le less = running-high (max r.high reach) rs i j d (omega (arith, le)) (omega (arith, less))

pub running-highs : (rs : List Range) → IsNonDecreasingBy high (running 0 rs)
running-highs rs = running-high 0 rs

-- one more range is pushed
pub running-more : (all rs : List Range) (i reach : ℕ) (x d : Range) → all ++ running reach (drop i rs) ≡ running 0 rs → i < length rs
    → x ≡ record { low = (get_or rs i d).low; high = max (get_or rs i d).high reach }
    → (all ++ x ∷ []) ++ running (max (get_or rs i d).high reach) (drop (i + 1) rs) ≡ running 0 rs
running-more all rs i reach x d so inside is =
    append_assoc all (x ∷ []) (running (max (get_or rs i d).high reach) (drop (i + 1) rs))
    ∙ ap (λ (y : Range). all ++ y ∷ running (max (get_or rs i d).high reach) (drop (i + 1) rs)) is
    ∙ ap (λ (l : List Range). all ++ running reach l) (sym (drop_more rs i d inside))
    ∙ so

-- the first range begins at or below the value
abbrev starts : ℕ → List Range → Bool
starts v [] = false
starts v (r ∷ rs) = leb r.low v

max-leb : (v h g : ℕ) → leb v (max h g) ≡ (leb v h || leb v g)
max-leb v h g = by_test (leb v h) refl (leb v g) refl
  where
    by_test : (a : Bool) → leb v h ≡ a → (b : Bool) → leb v g ≡ b → leb v (max h g) ≡ (leb v h || leb v g)
    by_test true p b q = let e = leb-true v h p in let m = le-max_left h g in le-leb v (max h g) (omega (arith, e, m)) ∙ sym (rw (p) refl)
    by_test false p true q = let e = leb-true v g q in let m = le-max_right h g in le-leb v (max h g) (omega (arith, e, m)) ∙ sym (rw (p, q) refl)
    by_test false p false q =
        elim (cases_lt h g) [
          | inl less ↦ ap (leb v) (max-eq_right {n = h} {m = g} (omega (arith, less))) ∙ rw (p, q) refl
          | inr least ↦ ap (leb v) (max-eq_left {n = h} {m = g} least) ∙ rw (p, q) refl
        ]

joined : (l s h g a : Bool) → (s ≡ true → l ≡ true) → ((l && (h || g)) || ((s && (h || g)) || a)) ≡ ((l && g) || ((l && h) || a))
joined false false h g a first = refl
joined false true h g a first = absurd (true≢false (sym (first refl)))
joined true s true true a first = refl
joined true s true false a first = refl
joined true s false true a first = refl
joined true true false false a first = refl
joined true false false false a first = refl

starts-lower : (r : Range) (rs : List Range) (v : ℕ) → IsNonDecreasingBy low (r ∷ rs) → starts v rs ≡ true → leb r.low v ≡ true
starts-lower r [] v up is = absurd (true≢false (sym is))
starts-lower r (s ∷ rs) v up is =
    let e : r.low ≤ s.low = up 0 1 r (omega arith) (omega arith) in
    le-leb r.low v (omega (arith, e, leb-true s.low v is))

running-among : (reach v : ℕ) (rs : List Range) → IsNonDecreasingBy low rs → list_any (within v) (running reach rs) ≡ ((starts v rs && leb v reach) || list_any (within v) rs)
running-among reach v [] up = refl
running-among reach v (r ∷ rs) up =
    ap (λ b. (leb r.low v && leb v (max r.high reach)) || b) (running-among (max r.high reach) v rs (IsNonDecreasingBy-drop low 1 (r ∷ rs) up))
    ∙ ap (λ m. (leb r.low v && m) || ((starts v rs && m) || list_any (within v) rs)) (max-leb v r.high reach)
    ∙ joined (leb r.low v) (starts v rs) (leb v r.high) (leb v reach) (list_any (within v) rs) (starts-lower r rs v up)

least : (l z h a : Bool) → (z ≡ true → h ≡ true) → ((l && z) || ((l && h) || a)) ≡ ((l && h) || a)
least false z h a first = refl
least true false h a first = refl
least true true true a first = refl
least true true false a first = absurd (true≢false (sym (first refl)))

from_zero : (v : ℕ) (rs : List Range) → ((starts v rs && leb v 0) || list_any (within v) rs) ≡ list_any (within v) rs
from_zero v [] = refl
from_zero v (r ∷ rs) = least (leb r.low v) (leb v 0) (leb v r.high) (list_any (within v) rs) (λ z. le-leb v r.high (let e = leb-true v 0 z in omega (arith, e)))

pub running-same : (v : ℕ) (rs : List Range) → IsNonDecreasingBy low rs → is_among (values (running 0 rs)) v ≡ is_among (values rs) v
running-same v rs up = among-values v (running 0 rs) ∙ running-among 0 v rs up ∙ from_zero v rs ∙ sym (among-values v rs)

-- the last of the first k ranges decides, if exactly these begin at or below the value
pub last-decides : (rs : List Range) (k v : ℕ) (d : Range) → IsNonDecreasingBy high rs → 0 < k → k ≤ length rs
    → ((i : ℕ) (e : Range) → i < k → leb (low (get_or rs i e)) v ≡ true)
    → ((i : ℕ) (e : Range) → k ≤ i → i < length rs → leb (low (get_or rs i e)) v ≡ false)
    → leb v (high (get_or rs (k - 1) d)) ≡ is_among (values rs) v
last-decides rs k v d up some most before after = by_test (leb v (high (get_or rs (k - 1) d))) refl ∙ sym (among-values v rs)
  where
    by_test : (b : Bool) → leb v (high (get_or rs (k - 1) d)) ≡ b → leb v (high (get_or rs (k - 1) d)) ≡ list_any (within v) rs
    by_test true is =
        is
        ∙ sym (list_any_at (within v) rs (k - 1) d (omega (arith, some, most))
        (within-is v (get_or rs (k - 1) d) ∙ ap (λ b. b && leb v (get_or rs (k - 1) d).high) (before (k - 1) d (omega (arith, some))) ∙ is))
    by_test false is = is ∙ sym (list_any_none (within v) rs (λ i e inside. within-is v (get_or rs i e) ∙ out i e inside))
      where
        out : (i : ℕ) (e : Range) → i < length rs → (leb (get_or rs i e).low v && leb v (get_or rs i e).high) ≡ false
        out i e inside = elim (cases_lt i k) [
          | inl less ↦
              let longer : high (get_or rs i e) ≤ high (get_or rs (k - 1) e) = up i (k - 1) e (omega (arith, less)) (omega (arith, some, most)) in
              let same : get_or rs (k - 1) e ≡ get_or rs (k - 1) d = get_or_default rs (k - 1) e d (omega (arith, some, most)) in
              let short = leb-false v (high (get_or rs (k - 1) d)) is in
              and_right _ _ (lt-leb v (high (get_or rs i e)) (omega (arith, longer, ap high same, short)))
          | inr rest ↦ and_left _ _ (after i e rest inside)
        ]

-- if none begins at or below the value, none has it
pub none-decides : (rs : List Range) (k v : ℕ) → k ≡ 0 → ((i : ℕ) (e : Range) → k ≤ i → i < length rs → leb (low (get_or rs i e)) v ≡ false) → false ≡ is_among (values rs) v
none-decides rs k v none after =
    sym (among-values v rs ∙ list_any_none (within v) rs (λ i e inside. within-is v (get_or rs i e) ∙ and_left _ _ (after i e (omega (arith, none)) inside)))
