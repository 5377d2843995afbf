-- Lists of groups that grow.
use Rattle.summary_core.proofs.Prelude.{ℕ, length, List, [], ◌∷◌, suc, zero, ◌++◌, IfSome, slice_get}

-- a fact of each item, with one more item
pub each_push : {X : Type 0} (P : ℕ → X → Type 0) (xs : List X) (x : X) → ((i : ℕ) → IfSome (slice_get xs i) (P i)) → P (length xs) x → (i : ℕ) → IfSome (slice_get (xs ++ x ∷ []) i) (P i)
each_push P [] x each last zero = last
each_push P [] x each last (suc i) = tt
each_push P (y ∷ ys) x each last zero = each zero
each_push P (y ∷ ys) x each last (suc i) = each_push (λ j. P (suc j)) ys x (λ j. each (suc j)) last i
