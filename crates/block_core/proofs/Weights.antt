-- Sums of weights over the queued entries.
use Rattle.block_core.proofs.Prelude.{arith, ◌≡◌, sym, length, ℕ, ◌∙◌, [], refl, List, ◌+◌, ◌<◌, ◌∷◌, get_or, suc, set, zero, ◌++◌, AllByRecursion, IsPermutation, weight, head_of, heads_of, waiting_in, Waiting}
use Rattle.std.proofs.lemmas.List.Recursion.{is_sum_by}
use Rattle.std.proofs.lemmas.List.Sorted.{sum_by-IsPermutation}

pub weight-append : {X : Type 0} (f : X → ℕ) (xs ys : List X) → weight f (xs ++ ys) ≡ weight f xs + weight f ys
weight-append f [] ys = omega arith
weight-append f (x ∷ xs) ys = omega (arith, weight-append f xs ys)

pub weight-IsPermutation : {X : Type 0} (f : X → ℕ) (xs ys : List X) → IsPermutation xs ys → weight f ys ≡ weight f xs
weight-IsPermutation f xs ys p =
    is_sum_by (weight f) f refl (λ _ _. refl) ys ∙ sum_by-IsPermutation f xs ys p ∙ sym (is_sum_by (weight f) f refl (λ _ _. refl) xs)

pub weight-none : {X : Type 0} (f : X → ℕ) (xs : List X) → AllByRecursion (λ x. f x ≡ 0) xs → weight f xs ≡ 0
weight-none f [] h = refl
weight-none f (x ∷ xs) h = omega (arith, h.0, weight-none f xs h.1)

pub none-weight : {X : Type 0} (f : X → ℕ) (xs : List X) → weight f xs ≡ 0 → AllByRecursion (λ x. f x ≡ 0) xs
none-weight f [] h = tt
none-weight f (x ∷ xs) h = (omega (arith, h), none-weight f xs (omega (arith, h)))

-- ---- the store of one flow changes
pub weight-set : (f : Waiting → ℕ) (ss : List (List Waiting)) (j : ℕ) (s : List Waiting) → j < length ss
    → weight f (waiting_in (set ss j s)) + weight f (get_or ss j []) ≡ weight f (waiting_in ss) + weight f s
weight-set f [] j s l = absurd (omega (arith, l))
weight-set f (r ∷ ss) zero s l = omega (arith, weight-append f r (waiting_in ss), weight-append f s (waiting_in ss))
weight-set f (r ∷ ss) (suc j) s l =
    omega (arith, weight-append f r (waiting_in ss), weight-append f r (waiting_in (set ss j s)), weight-set f ss j s (omega (arith, l)))

pub heads-set : (f : Waiting → ℕ) (ss : List (List Waiting)) (j : ℕ) (s : List Waiting) → j < length ss
    → weight f (heads_of (set ss j s)) + weight f (head_of (get_or ss j [])) ≡ weight f (heads_of ss) + weight f (head_of s)
heads-set f [] j s l = absurd (omega (arith, l))
heads-set f (r ∷ ss) zero s l = omega (arith, weight-append f (head_of r) (heads_of ss), weight-append f (head_of s) (heads_of ss))
heads-set f (r ∷ ss) (suc j) s l =
    omega (arith, weight-append f (head_of r) (heads_of ss), weight-append f (head_of r) (heads_of (set ss j s)), heads-set f ss j s (omega (arith, l)))
