-- Lists of which each element has a property at its index.
use Rattle.sched_run.proofs.Prelude.{◌≡◌, ℕ, List, [], ◌∷◌, ◌++◌, length, subst, zero, suc, Some, IfSome}
use Rattle.std.specs.Prelude.{slice_get}

-- one more element
pub each-more : {X : Type 0} (P : ℕ → X → Type 0) (xs : List X) (x : X) → ((n : ℕ) → IfSome (slice_get xs n) (P n)) → P (length xs) x
    → (n : ℕ) → IfSome (slice_get (xs ++ x ∷ []) n) (P n)
each-more P [] x each last zero = last
each-more P [] x each last (suc n) = tt
each-more P (y ∷ xs) x each last zero = each zero
each-more P (y ∷ xs) x each last (suc n) = each-more (λ m. P (suc m)) xs x (λ m. each (suc m)) last n

-- the element at an index
pub each-at : {X : Type 0} (P : ℕ → X → Type 0) (xs : List X) (i : ℕ) (x : X) → ((n : ℕ) → IfSome (slice_get xs n) (P n)) → slice_get xs i ≡ Some x → P i x
each-at P xs i x each is = subst (λ o. IfSome o (P i)) is (each i)
