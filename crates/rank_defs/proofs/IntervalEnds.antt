-- Products and quotients lie between those at the ends of the intervals.
use Rattle.rank_defs.proofs.Prelude.{refl, ℕ, arith, ◌≡◌, false, ◌≤◌, subst, ◌≢◌, suc, zero, ◌*◌, ◌/◌, ◌<◌, ints, clamps, int_max, int_min, pos, ℤ, ◌≤ℤ◌, negsuc, int_div, ◌*ℤ◌, range, holds_zero}
use Rattle.std.proofs.Math.IntN.{*ℤ_comm}
use Rattle.std.proofs.Math.Nat.{mul-le-mul_left, mul-le-mul_right, div-mul-le_self}
use Rattle.std.proofs.lemmas.Nat.{le-div}

-- x lies between y and z, in either order
pub record Between (x y z : ℤ) : Type 0 where
  pub above : int_min y z ≤ℤ x
  pub below : x ≤ℤ int_max y z

pub rising : (x y z : ℤ) → y ≤ℤ x → x ≤ℤ z → Between x y z
rising x y z h k = record { above = omega (arith, ints, clamps); below = omega (arith, ints, clamps) }

pub falling : (x y z : ℤ) → z ≤ℤ x → x ≤ℤ y → Between x y z
falling x y z h k = record { above = omega (arith, ints, clamps); below = omega (arith, ints, clamps) }

-- multiplication by a non-negative number keeps the order
pub mul-pos : (a b : ℤ) (k : ℕ) → a ≤ℤ b → (a *ℤ pos k) ≤ℤ (b *ℤ pos k)
mul-pos (pos a) (pos b) k h = let e : a ≤ b = omega (arith, ints) in let f : a * k ≤ b * k = mul-le-mul_right k e in omega (arith, ints)
mul-pos (pos a) (negsuc b) k h = absurd (omega (arith, ints))
mul-pos (negsuc a) (pos b) k h = omega (arith, ints)
mul-pos (negsuc a) (negsuc b) k h = let e : suc b ≤ suc a = omega (arith, ints) in let f : suc b * k ≤ suc a * k = mul-le-mul_right k e in omega (arith, ints)

-- multiplication by a negative number reverses the order
pub mul-neg : (a b : ℤ) (k : ℕ) → a ≤ℤ b → (b *ℤ negsuc k) ≤ℤ (a *ℤ negsuc k)
mul-neg (pos a) (pos b) k h = let e : a ≤ b = omega (arith, ints) in let f : a * suc k ≤ b * suc k = mul-le-mul_right (suc k) e in omega (arith, ints)
mul-neg (pos a) (negsuc b) k h = absurd (omega (arith, ints))
mul-neg (negsuc a) (pos b) k h = omega (arith, ints)
mul-neg (negsuc a) (negsuc b) k h = let e : suc b ≤ suc a = omega (arith, ints) in let f : suc b * suc k ≤ suc a * suc k = mul-le-mul_right (suc k) e in omega (arith, ints)

pub Between-mul_left : (b x y z : ℤ) → y ≤ℤ x → x ≤ℤ z → Between (x *ℤ b) (y *ℤ b) (z *ℤ b)
Between-mul_left (pos k) x y z h i = rising _ _ _ (mul-pos y x k h) (mul-pos x z k i)
Between-mul_left (negsuc k) x y z h i = falling _ _ _ (mul-neg x z k i) (mul-neg y x k h)

pub Between-mul_right : (b x y z : ℤ) → y ≤ℤ x → x ≤ℤ z → Between (b *ℤ x) (b *ℤ y) (b *ℤ z)
Between-mul_right b x y z h i =
    subst (λ (k : ℤ). Between k (b *ℤ y) (b *ℤ z)) (*ℤ_comm x b)
    (subst (λ (k : ℤ). Between (x *ℤ b) k (b *ℤ z)) (*ℤ_comm y b)
    (subst (λ (k : ℤ). Between (x *ℤ b) (y *ℤ b) k) (*ℤ_comm z b) (Between-mul_left b x y z h i)))

pub div-le-div : (m n k : ℕ) → 0 < k → m ≤ n → m / k ≤ n / k
div-le-div m n k h i = le-div (m / k) n k h (omega (arith, div-mul-le_self m k))

pub div-le-div_left : (n j k : ℕ) → 0 < j → j ≤ k → n / k ≤ n / j
div-le-div_left n j k h i = le-div (n / k) n j h (omega (arith, mul-le-mul_left (n / k) i, div-mul-le_self n k))

-- division by a positive number keeps the order
pub div-pos : (a b : ℤ) (k : ℕ) → a ≤ℤ b → int_div a (pos (suc k)) ≤ℤ int_div b (pos (suc k))
div-pos (pos a) (pos b) k h = let e : a ≤ b = omega (arith, ints) in let f : a / suc k ≤ b / suc k = div-le-div a b (suc k) (omega arith) e in omega (arith, ints)
div-pos (pos a) (negsuc b) k h = absurd (omega (arith, ints))
div-pos (negsuc a) (pos b) k h = omega (arith, ints)
div-pos (negsuc a) (negsuc b) k h = let e : suc b ≤ suc a = omega (arith, ints) in let f : suc b / suc k ≤ suc a / suc k = div-le-div (suc b) (suc a) (suc k) (omega arith) e in omega (arith, ints)

-- division by a negative number reverses the order
pub div-neg : (a b : ℤ) (k : ℕ) → a ≤ℤ b → int_div b (negsuc k) ≤ℤ int_div a (negsuc k)
div-neg (pos a) (pos b) k h = let e : a ≤ b = omega (arith, ints) in let f : a / suc k ≤ b / suc k = div-le-div a b (suc k) (omega arith) e in omega (arith, ints)
div-neg (pos a) (negsuc b) k h = absurd (omega (arith, ints))
div-neg (negsuc a) (pos b) k h = omega (arith, ints)
div-neg (negsuc a) (negsuc b) k h = let e : suc b ≤ suc a = omega (arith, ints) in let f : suc b / suc k ≤ suc a / suc k = div-le-div (suc b) (suc a) (suc k) (omega arith) e in omega (arith, ints)

pub Between-div_left : (d x y z : ℤ) → d ≢ pos 0 → y ≤ℤ x → x ≤ℤ z → Between (int_div x d) (int_div y d) (int_div z d)
Between-div_left (pos zero) x y z n h i = absurd (n refl)
Between-div_left (pos (suc k)) x y z n h i = rising _ _ _ (div-pos y x k h) (div-pos x z k i)
Between-div_left (negsuc k) x y z n h i = falling _ _ _ (div-neg x z k i) (div-neg y x k h)

-- a greater divisor gives a quotient nearer to 0
Between-div_pos : (a : ℤ) (i j k : ℕ) → i ≤ j → j ≤ k → Between (int_div a (pos (suc j))) (int_div a (pos (suc i))) (int_div a (pos (suc k)))
Between-div_pos (pos n) i j k h l =
    let e : n / suc k ≤ n / suc j = div-le-div_left n (suc j) (suc k) (omega arith) (omega arith)
    in let f : n / suc j ≤ n / suc i = div-le-div_left n (suc i) (suc j) (omega arith) (omega arith)
    in falling _ _ _ (omega (arith, ints)) (omega (arith, ints))
Between-div_pos (negsuc n) i j k h l =
    let e : suc n / suc k ≤ suc n / suc j = div-le-div_left (suc n) (suc j) (suc k) (omega arith) (omega arith)
    in let f : suc n / suc j ≤ suc n / suc i = div-le-div_left (suc n) (suc i) (suc j) (omega arith) (omega arith)
    in rising _ _ _ (omega (arith, ints)) (omega (arith, ints))

Between-div_neg : (a : ℤ) (i j k : ℕ) → k ≤ j → j ≤ i → Between (int_div a (negsuc j)) (int_div a (negsuc i)) (int_div a (negsuc k))
Between-div_neg (pos n) i j k h l =
    let e : n / suc j ≤ n / suc k = div-le-div_left n (suc k) (suc j) (omega arith) (omega arith)
    in let f : n / suc i ≤ n / suc j = div-le-div_left n (suc j) (suc i) (omega arith) (omega arith)
    in falling _ _ _ (omega (arith, ints)) (omega (arith, ints))
Between-div_neg (negsuc n) i j k h l =
    let e : suc n / suc j ≤ suc n / suc k = div-le-div_left (suc n) (suc k) (suc j) (omega arith) (omega arith)
    in let f : suc n / suc i ≤ suc n / suc j = div-le-div_left (suc n) (suc j) (suc i) (omega arith) (omega arith)
    in rising _ _ _ (omega (arith, ints)) (omega (arith, ints))

-- an interval without 0 doesn't have ends on both sides of 0
pub no_zero : (y z : ℤ) → holds_zero (range y z) ≡ false → y ≤ℤ pos 0 → pos 0 ≤ℤ z → ⊥
no_zero y z n h i = grind (arith, ints)

pub Between-div_right : (a x y z : ℤ) → holds_zero (range y z) ≡ false → y ≤ℤ x → x ≤ℤ z → Between (int_div a x) (int_div a y) (int_div a z)
Between-div_right a (pos x) (pos zero) (pos z) n h i = absurd (no_zero (pos 0) (pos z) n (omega (arith, ints)) (omega (arith, ints)))
Between-div_right a (pos zero) (pos (suc y)) (pos z) n h i = absurd (omega (arith, ints))
Between-div_right a (pos (suc x)) (pos (suc y)) (pos zero) n h i = absurd (omega (arith, ints))
Between-div_right a (pos (suc x)) (pos (suc y)) (pos (suc z)) n h i = Between-div_pos a y x z (omega (arith, ints)) (omega (arith, ints))
Between-div_right a (pos x) (negsuc y) (pos z) n h i = absurd (no_zero (negsuc y) (pos z) n (omega (arith, ints)) (omega (arith, ints)))
Between-div_right a (negsuc x) (negsuc y) (pos z) n h i = absurd (no_zero (negsuc y) (pos z) n (omega (arith, ints)) (omega (arith, ints)))
Between-div_right a (negsuc x) (negsuc y) (negsuc z) n h i = Between-div_neg a y x z (omega (arith, ints)) (omega (arith, ints))
Between-div_right a (pos x) (negsuc y) (negsuc z) n h i = absurd (omega (arith, ints))
Between-div_right a (pos x) (pos y) (negsuc z) n h i = absurd (omega (arith, ints))
Between-div_right a (negsuc x) (pos y) z n h i = absurd (omega (arith, ints))

-- a number between two numbers that lie between the corners lies between the corners
pub within_corners : (v y z a b c d : ℤ) → Between v y z → Between y a b → Between z c d → (int_min (int_min a b) (int_min c d) ≤ℤ v) × (v ≤ℤ int_max (int_max a b) (int_max c d))
within_corners v y z a b c d h k l = (omega (arith, ints, clamps), omega (arith, ints, clamps))
