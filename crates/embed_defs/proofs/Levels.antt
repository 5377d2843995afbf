-- The number of leaves below a node, and addresses that continue below a node.
use Rattle.embed_defs.proofs.Prelude.{[], ℕ, ◌≡◌, refl, ◌∷◌, ap, arith, suc, length, ◌≤◌, zero, ◌++◌, ◌+◌, ◌-◌, ◌<◌, ◌*◌, mul-le-mul_left, IsWithin, Arities, down_from, leaves_below}
use Rattle.tree_defs.specs.Tree.{Address}

-- each level has nodes
abbrev pub ArePositive : Arities → Type 0
ArePositive a = (h : ℕ) → 0 < a h

pub leaves-positive : (a : Arities) (h : ℕ) → ArePositive a → 0 < leaves_below a h
leaves-positive a zero p = omega arith
leaves-positive a (suc h) p =
    let l : leaves_below a h * 1 ≤ leaves_below a h * a h = mul-le-mul_left (leaves_below a h) (omega (arith, p h)) in
    omega (arith, l, leaves-positive a h p)

leaves-step : (a : Arities) (h : ℕ) → ArePositive a → leaves_below a h ≤ leaves_below a (suc h)
leaves-step a h p =
    let l : leaves_below a h * 1 ≤ leaves_below a h * a h = mul-le-mul_left (leaves_below a h) (omega (arith, p h)) in
    omega (arith, l)

leaves-rise : (a : Arities) (h k : ℕ) → ArePositive a → leaves_below a h ≤ leaves_below a (k + h)
leaves-rise a h zero p = let e : 0 + h ≡ h = omega arith in rw e (omega arith)
leaves-rise a h (suc k) p = let e : suc k + h ≡ suc (k + h) = omega arith in rw e (omega (arith, leaves-rise a h k p, leaves-step a (k + h) p))

pub leaves-le : (a : Arities) (h k : ℕ) → ArePositive a → h ≤ k → leaves_below a h ≤ leaves_below a k
leaves-le a h k p l = let e : k ≡ (k - h) + h = omega arith in rw e (leaves-rise a h (k - h) p)

pub address-short : (a : Arities) (h : ℕ) (e : Address) → IsWithin (down_from a h) e → length e ≤ h
address-short a h [] w = omega arith
address-short a zero (x ∷ e) w = absurd w
address-short a (suc h) (x ∷ e) w = omega (arith, address-short a h e w.1)

-- an address may continue with an address below the node that it leads to
pub address-append : (a : Arities) (h : ℕ) (e f : Address) → IsWithin (down_from a h) e → IsWithin (down_from a (h - length e)) f → IsWithin (down_from a h) (e ++ f)
address-append a h [] f w v = let n : h - length {A = ℕ} [] ≡ h = omega arith in rw n at v
address-append a zero (x ∷ e) f w v = absurd w
address-append a (suc h) (x ∷ e) f w v = let n : suc h - length (x ∷ e) ≡ h - length e = omega arith in (w.0, address-append a h e f w.1 (rw n at v))

pub address-after : (a : Arities) (h : ℕ) (e f : Address) → IsWithin (down_from a h) (e ++ f) → IsWithin (down_from a (h - length e)) f
address-after a h [] f w = let n : h - length {A = ℕ} [] ≡ h = omega arith in rw n w
address-after a zero (x ∷ e) f w = absurd w
address-after a (suc h) (x ∷ e) f w = let n : suc h - length (x ∷ e) ≡ h - length e = omega arith in rw n (address-after a h e f w.1)

pub length-down_from : (a : Arities) (h : ℕ) → length (down_from a h) ≡ h
length-down_from a zero = refl
length-down_from a (suc h) = ap suc (length-down_from a h)
