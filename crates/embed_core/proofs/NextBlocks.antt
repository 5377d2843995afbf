-- Changes to one digit of a leaf's number.
use Rattle.embed_core.proofs.Prelude.{◌≡◌, length, arith, sym, ap, List, ◌+◌, subst, ℕ, ◌<◌, refl, ◌≤◌, get_or, suc, ◌*◌, length-set, value, Arities, down_from, leaves_below, IsWithin}
use Rattle.std.proofs.Math.ListN.{set}
use Rattle.embed_defs.proofs.LeafNumbers.{value-set, within-set, digit-below}

module _ (a : Arities) (ds : List ℕ) (i k : ℕ) (e : i + k + 1 ≡ length ds) (w : IsWithin (down_from a (length ds)) ds) where
  pub digit-fits : get_or ds i 0 < a k
  digit-fits = digit-below a ds i k e w

  pub set-within : (v : ℕ) → v < a k → IsWithin (down_from a (length (set ds i v))) (set ds i v)
  set-within v l = subst (λ (z : ℕ). IsWithin (down_from a z) (set ds i v)) (sym (length-set ds i v)) (within-set a ds i k v e w l)

  -- the digit rises by one
  pub raised : value a (set ds i (get_or ds i 0 + 1)) ≡ value a ds + leaves_below a k
  raised =
      let f : value a (set ds i (get_or ds i 0 + 1)) + get_or ds i 0 * leaves_below a k ≡ value a ds + (get_or ds i 0 + 1) * leaves_below a k = value-set a ds i k (get_or ds i 0 + 1) e in
      let g : (get_or ds i 0 + 1) * leaves_below a k ≡ get_or ds i 0 * leaves_below a k + leaves_below a k = omega arith in
      omega (arith, f, g)

  -- the digit has its greatest value and is set to 0
  pub carried_on : a k ≤ get_or ds i 0 + 1 → value a (set ds i 0) + leaves_below a (k + 1) ≡ value a ds + leaves_below a k
  carried_on l =
      let f : value a (set ds i 0) + get_or ds i 0 * leaves_below a k ≡ value a ds + 0 * leaves_below a k = value-set a ds i k 0 e in
      let d : a k ≡ get_or ds i 0 + 1 = omega (arith, l, digit-fits) in
      let s : k + 1 ≡ suc k = omega arith in
      let b : leaves_below a (k + 1) ≡ a k * leaves_below a k = rw s refl in
      let c : a k * leaves_below a k ≡ (get_or ds i 0 + 1) * leaves_below a k = ap (λ (z : ℕ). z * leaves_below a k) d in
      let g : (get_or ds i 0 + 1) * leaves_below a k ≡ get_or ds i 0 * leaves_below a k + leaves_below a k = omega arith in
      let h : 0 * leaves_below a k ≡ 0 = omega arith in
      omega (arith, f, b, c, g, h)
