-- The nodes of a target, counted from the root down.
use Rattle.fabric_core.proofs.Prelude.{ℕ, arith, ◌≡◌, List, ◌+◌, length, get_or, subst, ◌<◌, ◌∷◌, ◌*◌, drop, drop_more, nodes}

pub next_count : (ds : List ℕ) (i begin width : ℕ) → i < length ds → begin + width * nodes (drop i ds) ≡ nodes ds → (begin + width) + (width * get_or ds i 0) * nodes (drop (i + 1) ds) ≡ nodes ds
next_count ds i begin width l e =
    let f : begin + width * nodes (get_or ds i 0 ∷ drop (i + 1) ds) ≡ nodes ds = subst (λ (z : List ℕ). begin + width * nodes z ≡ nodes ds) (drop_more ds i 0 l) e in
    omega (arith, f)
