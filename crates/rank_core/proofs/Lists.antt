-- Lists with one item replaced, and lists of one repeated item.
use Rattle.rank_core.proofs.Prelude.{◌≡◌, sym, ◌∙◌, List, ap, arith, [], length, ℕ, refl, ◌∷◌, Some, drop, ◌<◌, ◌≢◌, Vec, suc, zero, slice_get, slice_set, with_items}
use Rattle.std.proofs.Math.Seq.{take-append_seam}

pub get_set_same : {X : Type 0} (xs : List X) (i : ℕ) (x : X) → i < length xs → slice_get (slice_set xs i x) i ≡ Some x
get_set_same [] i x h = absurd (omega (arith, h))
get_set_same (y ∷ xs) zero x h = refl
get_set_same (y ∷ xs) (suc i) x h = get_set_same xs i x (omega (arith, h))

pub get_set_other : {X : Type 0} (xs : List X) (i j : ℕ) (x : X) → j ≢ i → slice_get (slice_set xs i x) j ≡ slice_get xs j
get_set_other [] i j x n = refl
get_set_other (y ∷ xs) zero zero x n = absurd (n refl)
get_set_other (y ∷ xs) zero (suc j) x n = refl
get_set_other (y ∷ xs) (suc i) zero x n = refl
get_set_other (y ∷ xs) (suc i) (suc j) x n = get_set_other xs i j x (λ e. n (ap suc e))

-- replacing all items of a vector by a list of the same length gives that list
pub refilled : {X Z : Type 0} (v : Vec X Z) (ws : List X) → length ws ≡ length v.items → (with_items v ws).items ≡ ws
refilled v ws h =
    let len : v.len ≡ length ws = v.ok.0 ∙ sym h
    in rw len (take-append_seam ws (drop (length ws) v.items))
