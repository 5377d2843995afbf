-- Numbers clamped to a span from 0 on.
use Rattle.block_replay.proofs.Prelude.{refl, ◌≡◌, ℕ, arith, ◌≤◌, clamps, ints, int_max, int_min, pos, ℤ, ◌≤ℤ◌, negsuc, unsigned_abs, span, clamped, num}

unsigned_abs-rises : (x y : ℤ) → pos 0 ≤ℤ x → x ≤ℤ y → unsigned_abs x ≤ unsigned_abs y
unsigned_abs-rises (pos a) (pos b) l h = omega (arith, ints)
unsigned_abs-rises (pos a) (negsuc b) l h = absurd (omega (arith, ints))
unsigned_abs-rises (negsuc a) y l h = absurd (omega (arith, ints))

-- a greater number is clamped to one that isn't less
pub clamped-rises : (high first : ℕ) (x y : ℤ) → x ≤ℤ y → clamped (span 0 high first) (num x) ≤ clamped (span 0 high first) (num y)
clamped-rises high first x y h =
    unsigned_abs-rises (int_max (pos 0) (int_min x (pos high))) (int_max (pos 0) (int_min y (pos high))) (omega (arith, ints, clamps)) (omega (arith, ints, clamps))

unsigned_abs-is : (x : ℤ) (n : ℕ) → x ≡ pos n → unsigned_abs x ≡ n
unsigned_abs-is x n e = rw e refl

-- a number of the span is unchanged
pub clamped-stays : (high first n : ℕ) → n ≤ high → clamped (span 0 high first) (num (pos n)) ≡ n
clamped-stays high first n h = unsigned_abs-is (int_max (pos 0) (int_min (pos n) (pos high))) n (omega (arith, ints, clamps))
