-- Numbers in ascending order: each list of numbers can be sorted, and the number at a rank is
-- found by counting.
use Rattle.summary_core.proofs.Prelude.{ℕ, length, ◌≡◌, arith, List, ◌≤◌, sym, [], ◌∷◌, refl, suc, ◌<◌, ◌+◌, subst, zero, Bool, false, true, ◌==◌, get_or, inl, inr, leb, cond, ◌⊎◌, ltb, cond-false, cond-true, le-leb, cases_lt, lt-leb, ltb-true, IsPermutation-trans, IsPermutation-refl, IsPermutation-cons, IsPermutation-middle, IsPermutation-sym, sum_by-cons, nat_cmp, is_lt, count_to, at_most}
use Rattle.std.proofs.Common.{IsPermutation, IsSorted}
use Rattle.std.specs.declared.cmp.Ordering.TheVariants.{Less, Equal, Greater}

-- each number is at least this one
abbrev AreFrom : ℕ → List ℕ → Type 0
AreFrom least [] = Unit {0}
AreFrom least (x ∷ xs) = (least ≤ x) × AreFrom least xs

-- the numbers ascend
abbrev pub Ascend : List ℕ → Type 0
Ascend [] = Unit {0}
Ascend (x ∷ xs) = AreFrom x xs × Ascend xs

-- ---- a sorted list of the same numbers
abbrev order_of : (x y : ℕ) → (x ≤ y) ⊎ (y < x)
order_of x y = elim (cases_lt y x) [
  | inl less ↦ inr less
  | inr most ↦ inl most
]

abbrev inserted : ℕ → List ℕ → List ℕ
inserted x [] = x ∷ []
inserted x (y ∷ ys) = cond (leb x y) (x ∷ y ∷ ys) (y ∷ inserted x ys)

abbrev pub ordered : List ℕ → List ℕ
ordered [] = []
ordered (x ∷ xs) = inserted x (ordered xs)

inserted_before : (x y : ℕ) (ys : List ℕ) → x ≤ y → inserted x (y ∷ ys) ≡ x ∷ y ∷ ys
inserted_before x y ys low = cond-true (leb x y) _ _ (le-leb x y low)

inserted_after : (x y : ℕ) (ys : List ℕ) → y < x → inserted x (y ∷ ys) ≡ y ∷ inserted x ys
inserted_after x y ys high = cond-false (leb x y) _ _ (lt-leb x y high)

from_lower : (a b : ℕ) (xs : List ℕ) → a ≤ b → AreFrom b xs → AreFrom a xs
from_lower a b [] low all = tt
from_lower a b (x ∷ xs) low all = (omega (arith, low, all.0), from_lower a b xs low all.1)

from_inserted : (a x : ℕ) (ys : List ℕ) → a ≤ x → AreFrom a ys → AreFrom a (inserted x ys)
from_inserted a x [] low all = (low, tt)
from_inserted a x (y ∷ ys) low all = elim (order_of x y) [
  | inl before ↦ subst (AreFrom a) (sym (inserted_before x y ys before)) (low, all)
  | inr after ↦ subst (AreFrom a) (sym (inserted_after x y ys after)) (all.0, from_inserted a x ys low all.1)
]

ascend_inserted : (x : ℕ) (ys : List ℕ) → Ascend ys → Ascend (inserted x ys)
ascend_inserted x [] up = (tt, tt)
ascend_inserted x (y ∷ ys) up = elim (order_of x y) [
  | inl before ↦ subst Ascend (sym (inserted_before x y ys before)) ((before, from_lower x y ys before up.0), up)
  | inr after ↦ subst Ascend (sym (inserted_after x y ys after)) (from_inserted y x ys (omega (arith, after)) up.0, ascend_inserted x ys up.1)
]

pub ascend_ordered : (xs : List ℕ) → Ascend (ordered xs)
ascend_ordered [] = tt
ascend_ordered (x ∷ xs) = ascend_inserted x (ordered xs) (ascend_ordered xs)

moved_inserted : (x : ℕ) (ys : List ℕ) → IsPermutation (x ∷ ys) (inserted x ys)
moved_inserted x [] = IsPermutation-refl (x ∷ [])
moved_inserted x (y ∷ ys) = elim (order_of x y) [
  | inl before ↦ subst (IsPermutation (x ∷ y ∷ ys)) (sym (inserted_before x y ys before)) (IsPermutation-refl (x ∷ y ∷ ys))
  | inr after ↦
      subst (IsPermutation (x ∷ y ∷ ys)) (sym (inserted_after x y ys after))
      (IsPermutation-trans (x ∷ y ∷ ys) (y ∷ x ∷ ys) (y ∷ inserted x ys)
      (IsPermutation-sym (y ∷ x ∷ ys) (x ∷ y ∷ ys) (IsPermutation-middle (y ∷ []) x ys))
      (IsPermutation-cons y (x ∷ ys) (inserted x ys) (moved_inserted x ys)))
]

pub moved_ordered : (xs : List ℕ) → IsPermutation xs (ordered xs)
moved_ordered [] = IsPermutation-refl []
moved_ordered (x ∷ xs) = IsPermutation-trans (x ∷ xs) (x ∷ ordered xs) (inserted x (ordered xs)) (IsPermutation-cons x xs (ordered xs) (moved_ordered xs)) (moved_inserted x (ordered xs))

not_less : (x y : ℕ) → x ≤ y → is_lt (nat_cmp y x) ≡ false
not_less x y low = by_less (ltb y x) refl (y == x)
  where
    by_less : (t : Bool) → ltb y x ≡ t → (u : Bool) → is_lt (cond t Less (cond u Equal Greater)) ≡ false
    by_less true e u = let less : y < x = ltb-true y x e in absurd (omega (arith, less, low))
    by_less false e true = refl
    by_less false e false = refl

-- ascending lists are sorted in the sense of a sort's result
in_order : (least place d : ℕ) (xs : List ℕ) → AreFrom least xs → place < length xs → least ≤ get_or xs place d
in_order least place d [] all within = absurd (omega (arith, within))
in_order least zero d (x ∷ xs) all within = all.0
in_order least (suc place) d (x ∷ xs) all within = in_order least place d xs all.1 (omega (arith, within))

next_up : (xs : List ℕ) → Ascend xs → (k d : ℕ) → suc k < length xs → get_or xs k d ≤ get_or xs (suc k) d
next_up [] up k d within = absurd (omega (arith, within))
next_up (x ∷ xs) up zero d within = in_order x 0 d xs up.0 (omega (arith, within))
next_up (x ∷ xs) up (suc k) d within = next_up xs up.1 k d (omega (arith, within))

pub sorted_ascending : (xs : List ℕ) → Ascend xs → IsSorted nat_cmp xs
sorted_ascending xs up k d least next =
    let later : suc k ≡ k + 1 = omega arith in
    not_less (get_or xs k d) (get_or xs (k + 1) d) (subst (λ m. get_or xs k d ≤ get_or xs m d) later (next_up xs up k d (omega (arith, next))))

-- ---- counts
none_to : (bound least : ℕ) (xs : List ℕ) → bound < least → AreFrom least xs → count_to bound xs ≡ 0
none_to bound least [] less all = refl
none_to bound least (x ∷ xs) less all =
    let rest : count_to bound xs ≡ 0 = none_to bound least xs less all.1 in
    let first : at_most bound x ≡ 0 = cond-false (leb x bound) 1 0 (lt-leb x bound (omega (arith, less, all.0))) in
    omega (arith, sum_by-cons (at_most bound) x xs, first, rest)

one_to : (bound x : ℕ) (xs : List ℕ) → x ≤ bound → count_to bound (x ∷ xs) ≡ 1 + count_to bound xs
one_to bound x xs low =
    let first : at_most bound x ≡ 1 = cond-true (leb x bound) 1 0 (le-leb x bound low) in
    omega (arith, sum_by-cons (at_most bound) x xs, first)

-- the number at a place is above a bound that no more numbers are at
pub above_at : (bound place d : ℕ) (xs : List ℕ) → Ascend xs → count_to bound xs ≤ place → place < length xs → bound < get_or xs place d
above_at bound place d [] up most within = absurd (omega (arith, within))
above_at bound zero d (x ∷ xs) up most within = elim (order_of x bound) [
  | inl low ↦ absurd (omega (arith, one_to bound x xs low, most))
  | inr high ↦ high
]
above_at bound (suc place) d (x ∷ xs) up most within = elim (order_of x bound) [
  | inl low ↦ above_at bound place d xs up.1 (omega (arith, one_to bound x xs low, most)) (omega (arith, within))
  | inr high ↦
      above_at bound place d xs up.1
      (let none : count_to bound xs ≡ 0 = none_to bound x xs high up.0 in omega (arith, none)) (omega (arith, within))
]

-- the number at a place is at most a bound that more numbers are at
pub below_at : (bound place d : ℕ) (xs : List ℕ) → Ascend xs → place < count_to bound xs → get_or xs place d ≤ bound
below_at bound place d [] up more = absurd (omega (arith, more))
below_at bound zero d (x ∷ xs) up more = elim (order_of x bound) [
  | inl low ↦ low
  | inr high ↦ absurd (let none : count_to bound (x ∷ xs) ≡ 0 = none_to bound x (x ∷ xs) high (omega arith, up.0) in omega (arith, none, more))
]
below_at bound (suc place) d (x ∷ xs) up more = elim (order_of x bound) [
  | inl low ↦ below_at bound place d xs up.1 (omega (arith, one_to bound x xs low, more))
  | inr high ↦ absurd (let none : count_to bound (x ∷ xs) ≡ 0 = none_to bound x (x ∷ xs) high (omega arith, up.0) in omega (arith, none, more))
]
