-- The number of the leaf that digits lead to.
use Rattle.embed_defs.proofs.Prelude.{[], ℕ, ◌≡◌, refl, ◌∷◌, ap, ◌∙◌, arith, suc, length, ◌≤◌, zero, ◌+◌, ◌<◌, replicate, ◌*◌, get_or, ◌%◌, ◌/◌, mul-le-mul_left, length-set, IsWithin, digits, Arities, down_from, leaves_below}
use Rattle.std.proofs.Math.ListN.{set}
use Rattle.std.proofs.lemmas.Nat.{div-mul-add}
use Rattle.tree_defs.specs.Tree.{Address}
use Rattle.embed_defs.specs.Counting.{value}
use Rattle.embed_defs.proofs.Levels.{ArePositive}

value-below : (a : Arities) (ds : Address) → IsWithin (down_from a (length ds)) ds → value a ds < leaves_below a (length ds)
value-below a [] w = omega arith
value-below a (d ∷ ds) w =
    let m : leaves_below a (length ds) * (d + 1) ≤ leaves_below a (length ds) * a (length ds) = mul-le-mul_left (leaves_below a (length ds)) (omega (arith, w.0)) in
    let e : leaves_below a (length ds) * (d + 1) ≡ d * leaves_below a (length ds) + leaves_below a (length ds) = omega arith in
    let f : leaves_below a (length ds) * a (length ds) ≡ a (length ds) * leaves_below a (length ds) = omega arith in
    omega (arith, m, e, f, value-below a ds w.1)

-- digits equal those of the leaf that they lead to
pub digits-value : (a : Arities) (ds : Address) → IsWithin (down_from a (length ds)) ds → digits a (length ds) (value a ds) ≡ ds
digits-value a [] w = refl
digits-value a (d ∷ ds) w =
    let q : (d * leaves_below a (length ds) + value a ds) / leaves_below a (length ds) ≡ d = div-mul-add d (leaves_below a (length ds)) (value a ds) (value-below a ds w.1) in
    let m : leaves_below a (length ds) * ((d * leaves_below a (length ds) + value a ds) / leaves_below a (length ds)) ≡ d * leaves_below a (length ds) = ap (λ (z : ℕ). leaves_below a (length ds) * z) q ∙ omega arith in
    let r : (d * leaves_below a (length ds) + value a ds) % leaves_below a (length ds) ≡ value a ds = omega (arith, m) in
    let t : digits a (length ds) ((d * leaves_below a (length ds) + value a ds) % leaves_below a (length ds)) ≡ ds = ap (digits a (length ds)) r ∙ digits-value a ds w.1 in
    cc

pub value-zeros : (a : Arities) (h : ℕ) → value a (replicate h 0) ≡ 0
value-zeros a zero = refl
value-zeros a (suc h) = let e : 0 * leaves_below a (length {A = ℕ} (replicate h 0)) ≡ 0 = omega arith in omega (arith, e, value-zeros a h)

pub zeros-within : (a : Arities) (h : ℕ) → ArePositive a → IsWithin (down_from a h) (replicate h 0)
zeros-within a zero p = tt
zeros-within a (suc h) p = (p h, zeros-within a h p)

-- the leaf's number after one digit is changed, at a level where each node has height k
pub value-set : (a : Arities) (ds : Address) (i k v : ℕ) → i + k + 1 ≡ length ds → value a (set ds i v) + get_or ds i 0 * leaves_below a k ≡ value a ds + v * leaves_below a k
value-set a [] i k v e = absurd (omega arith)
value-set a (d ∷ ds) zero k v e =
    let n : length ds ≡ k = omega arith in
    let b : leaves_below a (length ds) ≡ leaves_below a k = ap (leaves_below a) n in
    let x : d * leaves_below a (length ds) ≡ d * leaves_below a k = ap (λ (z : ℕ). d * z) b in
    let y : v * leaves_below a (length ds) ≡ v * leaves_below a k = ap (λ (z : ℕ). v * z) b in
    omega (arith, x, y)
value-set a (d ∷ ds) (suc i) k v e =
    let n : d * leaves_below a (length (set ds i v)) ≡ d * leaves_below a (length ds) = ap (λ (z : ℕ). d * leaves_below a z) (length-set ds i v) in
    omega (arith, n, value-set a ds i k v (omega arith))

pub within-set : (a : Arities) (ds : Address) (i k v : ℕ) → i + k + 1 ≡ length ds → IsWithin (down_from a (length ds)) ds → v < a k → IsWithin (down_from a (length ds)) (set ds i v)
within-set a [] i k v e w l = absurd (omega arith)
within-set a (d ∷ ds) zero k v e w l = let n : k ≡ length ds = omega arith in ((rw n at l), w.1)
within-set a (d ∷ ds) (suc i) k v e w l = (w.0, within-set a ds i k v (omega arith) w.1 l)

pub digit-below : (a : Arities) (ds : Address) (i k : ℕ) → i + k + 1 ≡ length ds → IsWithin (down_from a (length ds)) ds → get_or ds i 0 < a k
digit-below a [] i k e w = absurd (omega arith)
digit-below a (d ∷ ds) zero k e w = let n : length ds ≡ k = omega arith in rw n at w.0
digit-below a (d ∷ ds) (suc i) k e w = digit-below a ds i k (omega arith) w.1
