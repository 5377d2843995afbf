-- The totals of shares fit their type.
use Rattle.std.proofs.Common.{◌≡◌, ℕ, ◌+◌, ◌*◌, ◌<◌, ◌≤◌, ◌^◌, arith}
use Rattle.std.proofs.lemmas.Nat.{mul-le, mul-lt}
use Rattle.std.proofs.Math.Nat.{add-mul}

pub square_below : (s : ℕ) → s < 2 ^ 54 → s * s < 2 ^ 108
square_below s h = mul-lt s s 18014398509481984 18014398509481984 h h

-- the sum of the squares stays at most the square of the sum
pub one_more_square : (s q y : ℕ) → q ≤ s * s → q + y * y ≤ (s + y) * (s + y)
one_more_square s q y h =
    let a : s * s ≤ s * (s + y) = mul-le s s s (s + y) (omega arith) (omega arith) in
    let b : y * y ≤ y * (s + y) = mul-le y y y (s + y) (omega arith) (omega arith) in
    let e : (s + y) * (s + y) ≡ s * (s + y) + y * (s + y) = add-mul s y (s + y) in
    omega (arith, a, b, e, h)

pub millionths_fit : (s : ℕ) → s < 2 ^ 54 → s * s * 1000000 < 2 ^ 128
millionths_fit s h = mul-lt (s * s) 1000000 324518553658426726783156020576256 1048576 (square_below s h) (omega arith)

pub divisor_fits : (n q s : ℕ) → n < 2 ^ 20 → q ≤ s * s → s < 2 ^ 54 → n * q < 2 ^ 128
divisor_fits n q s few bounded small = mul-lt n q 1048576 324518553658426726783156020576256 few (omega (arith, bounded, square_below s small))
