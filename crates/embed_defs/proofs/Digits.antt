-- Leaves and their digits.
use Rattle.embed_defs.proofs.Prelude.{[], ℕ, ◌≡◌, refl, ◌∷◌, ap, arith, suc, length, ◌≤◌, Some, zero, ◌+◌, ◌-◌, ◌<◌, eqb, ◌*◌, true, ◌%◌, ◌/◌, take, div-lt_iff_lt-mul, eqb-true, after, IsWithin, digits, Arities, down_from, leaves_below}
use Rattle.std.proofs.lemmas.Nat.{mod_below}
use Rattle.tree_defs.specs.Tree.{Address}
use Rattle.embed_defs.proofs.Levels.{ArePositive, leaves-positive}
use Rattle.embed_defs.proofs.Addresses.{some_of_cond}

pub length-digits : (a : Arities) (h n : ℕ) → length (digits a h n) ≡ h
length-digits a zero n = refl
length-digits a (suc h) n = omega (arith, length-digits a h (n % leaves_below a h))

pub digits-within : (a : Arities) (h n : ℕ) → ArePositive a → n < leaves_below a h → IsWithin (down_from a h) (digits a h n)
digits-within a zero n p l = tt
digits-within a (suc h) n p l =
    let b : 0 < leaves_below a h = leaves-positive a h p in
    ((div-lt_iff_lt-mul b).1 l, digits-within a h (n % leaves_below a h) p (mod_below n (leaves_below a h) b))

pub take-within : (a : Arities) (h k : ℕ) (e : Address) → IsWithin (down_from a h) e → IsWithin (down_from a h) (take k e)
take-within a h zero e w = tt
take-within a h (suc k) [] w = tt
take-within a zero (suc k) (x ∷ e) w = absurd w
take-within a (suc h) (suc k) (x ∷ e) w = (w.0, take-within a h k e w.1)

-- if the first k digits of m begin those of n, then n isn't after the block of m
pub digits-prefix : (a : Arities) (h k l m n : ℕ) (w : Address) → ArePositive a → k ≤ h → m < leaves_below a h → n < leaves_below a h
    → after (take k (digits a h m)) (take l (digits a h n)) ≡ Some w → n < m + leaves_below a (h - k)
digits-prefix a h zero l m n w p k r s e = let q : leaves_below a (h - 0) ≡ leaves_below a h = ap (leaves_below a) (omega arith) in omega (arith, q)
digits-prefix a zero (suc k) l m n w p q r s e = absurd (omega arith)
digits-prefix a (suc h) (suc k) zero m n w p q r s e = cc
digits-prefix a (suc h) (suc k) (suc l) m n w p q r s e =
    let b : 0 < leaves_below a h = leaves-positive a h p in
    let f : (eqb (m / leaves_below a h) (n / leaves_below a h) ≡ true) × (after (take k (digits a h (m % leaves_below a h))) (take l (digits a h (n % leaves_below a h))) ≡ Some w) = some_of_cond _ _ w e in
    let g : m / leaves_below a h ≡ n / leaves_below a h = eqb-true (m / leaves_below a h) (n / leaves_below a h) f.0 in
    let i : n % leaves_below a h < m % leaves_below a h + leaves_below a (h - k)
    = digits-prefix a h k l (m % leaves_below a h) (n % leaves_below a h) w p (omega arith) (mod_below m (leaves_below a h) b) (mod_below n (leaves_below a h) b) f.1 in
    let j : leaves_below a (suc h - suc k) ≡ leaves_below a (h - k) = ap (leaves_below a) (omega arith) in
    let c : leaves_below a h * (m / leaves_below a h) ≡ leaves_below a h * (n / leaves_below a h) = ap (λ (z : ℕ). leaves_below a h * z) g in
    omega (arith, i, j, c)
