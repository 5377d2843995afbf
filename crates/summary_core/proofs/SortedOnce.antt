-- Numbers in ascending order are determined by which numbers they are.
use Rattle.summary_core.proofs.Prelude.{ℕ, length, ◌≡◌, arith, List, ap, ◌≤◌, ◌∙◌, sym, [], ◌∷◌, refl, suc, ◌<◌, get_or, inl, inr, leb, cond, ap₂, ◌⊎◌, sum_by, cond-false, cond-true, le-leb, cases_order, lt-leb, IsNonDecreasingBy-from_sort, sum_by-IsPermutation, sum_by-cons, nat_cmp}
use Rattle.std.proofs.Common.{IsPermutation, IsSorted}
use Rattle.std.specs.List.Sorted.{IsNonDecreasing}

-- whether a number is at most x, as a count
abbrev at_most : ℕ → ℕ → ℕ
at_most x y = cond (leb y x) 1 0

-- every sum over the numbers is the same
abbrev HaveSameSums : List ℕ → List ℕ → Type 0
HaveSameSums xs ys = (f : ℕ → ℕ) → sum_by f xs ≡ sum_by f ys

none_below : (x : ℕ) (ys : List ℕ) → ((j d : ℕ) → j < length ys → x < get_or ys j d) → sum_by (at_most x) ys ≡ 0
none_below x [] above = refl
none_below x (y ∷ ys) above =
    let first : x < y = above 0 y (omega arith) in
    let rest : sum_by (at_most x) ys ≡ 0 = none_below x ys (λ j d less. above (suc j) d (omega (arith, less))) in
    let none : at_most x y ≡ 0 = cond-false (leb y x) 1 0 (lt-leb y x first) in
    omega (arith, sum_by-cons (at_most x) y ys, rest, none)

-- the least number of one list isn't below the least of the other
least : (x y : ℕ) (xs ys : List ℕ) → IsNonDecreasing (y ∷ ys) → HaveSameSums (x ∷ xs) (y ∷ ys) → x < y → ⊥
least x y xs ys up same less =
    let none : sum_by (at_most x) (y ∷ ys) ≡ 0 = none_below x (y ∷ ys) (λ j d within. let above : get_or (y ∷ ys) 0 d ≤ get_or (y ∷ ys) j d = up 0 j d (omega arith) within in omega (arith, above, less)) in
    let one : at_most x x ≡ 1 = cond-true (leb x x) 1 0 (le-leb x x (omega arith)) in
    omega (arith, sum_by-cons (at_most x) x xs, same (at_most x), none, one)

tail_up : (x : ℕ) (xs : List ℕ) → IsNonDecreasing (x ∷ xs) → IsNonDecreasing xs
tail_up x xs up i j d less within = up (suc i) (suc j) d (omega (arith, less)) (omega (arith, within))

same_heads : (x y : ℕ) (xs ys : List ℕ) → IsNonDecreasing (x ∷ xs) → IsNonDecreasing (y ∷ ys) → HaveSameSums (x ∷ xs) (y ∷ ys) → (x ≡ y) ⊎ (x < y) ⊎ (y < x) → x ≡ y
same_heads x y xs ys up up' same (inl e) = e
same_heads x y xs ys up up' same (inr (inl less)) = absurd (least x y xs ys up' same less)
same_heads x y xs ys up up' same (inr (inr less)) = absurd (least y x ys xs up (λ f. sym (same f)) less)

pub ascending_once : (xs ys : List ℕ) → IsNonDecreasing xs → IsNonDecreasing ys → HaveSameSums xs ys → xs ≡ ys
ascending_once [] [] up up' same = refl
ascending_once [] (y ∷ ys) up up' same = absurd (omega (arith, same (λ n. 1), sum_by-cons (λ n. 1) y ys))
ascending_once (x ∷ xs) [] up up' same = absurd (omega (arith, same (λ n. 1), sum_by-cons (λ n. 1) x xs))
ascending_once (x ∷ xs) (y ∷ ys) up up' same =
    let e : x ≡ y = same_heads x y xs ys up up' same (cases_order x y) in
    let rest : xs ≡ ys = ascending_once xs ys (tail_up x xs up) (tail_up y ys up') (λ f. omega (arith, same f, sum_by-cons f x xs, sum_by-cons f y ys, ap f e)) in
    ap₂ (λ (n : ℕ) (ns : List ℕ). n ∷ ns) e rest

-- one list sorted in two ways
pub sorted_once : (delays xs ys : List ℕ) → IsPermutation delays xs → IsSorted nat_cmp xs → IsPermutation delays ys → IsSorted nat_cmp ys → xs ≡ ys
sorted_once delays xs ys first up second up' =
    ascending_once xs ys (IsNonDecreasingBy-from_sort (λ n. n) xs up) (IsNonDecreasingBy-from_sort (λ n. n) ys up')
    (λ f. sum_by-IsPermutation f delays xs first ∙ sym (sum_by-IsPermutation f delays ys second))
