-- The totals of shares, leaf by leaf.
use Rattle.summary_core.proofs.Prelude.{ℕ, length, ◌≡◌, arith, List, ◌≤◌, [], ◌∷◌, refl, ◌+◌, Bool, if◌then◌else◌, false, true, ◌^◌, le-leb, nat_le, ◌||◌, shares, squares, total, has_packets, index_from, share_of, Group}
use Rattle.summary_core.specs.declared.fairness.Fairness.TheVariants.{TooLarge}

count_by : (b : Bool) (x : ℕ) (xs : List ℕ) → length (if b then x ∷ xs else xs) ≡ length (if b then x ∷ [] else []) + length xs
count_by true x xs = omega arith
count_by false x xs = omega arith

sum_by : (b : Bool) (x : ℕ) (xs : List ℕ) → total (if b then x ∷ xs else xs) ≡ total (if b then x ∷ [] else []) + total xs
sum_by true x xs = omega arith
sum_by false x xs = omega arith

squares_by : (b : Bool) (x : ℕ) (xs : List ℕ) → squares (if b then x ∷ xs else xs) ≡ squares (if b then x ∷ [] else []) + squares xs
squares_by true x xs = omega arith
squares_by false x xs = omega arith

pub count-first : (g : Group) (gs : List Group) → length (shares (g ∷ gs)) ≡ length (shares (g ∷ [])) + length (shares gs)
count-first g gs = count_by (has_packets g.figures.counts) (share_of g) (shares gs)

pub sum-first : (g : Group) (gs : List Group) → total (shares (g ∷ gs)) ≡ total (shares (g ∷ [])) + total (shares gs)
sum-first g gs = sum_by (has_packets g.figures.counts) (share_of g) (shares gs)

pub squares-first : (g : Group) (gs : List Group) → squares (shares (g ∷ gs)) ≡ squares (shares (g ∷ [])) + squares (shares gs)
squares-first g gs = squares_by (has_packets g.figures.counts) (share_of g) (shares gs)

either : (b : Bool) → (b || true) ≡ true
either true = refl
either false = refl

-- a large sum, or too many shares, have no index
pub large_sum : (count sum squares : ℕ) → 2 ^ 54 ≤ sum → index_from count sum squares ≡ TooLarge
large_sum count sum squares large = rw (le-leb 18014398509481984 sum large) refl

pub large_count : (count sum squares : ℕ) → 2 ^ 20 ≤ count → index_from count sum squares ≡ TooLarge
large_count count sum squares large = rw (le-leb 1048576 count large, either (nat_le 18014398509481984 sum)) refl
