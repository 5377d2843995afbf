-- The bits that a number needs.
use Rattle.size_core.proofs.Prelude.{◌≡◌, ℕ, sym, arith, subst, ◌+◌, ◌<◌, ◌≤◌, suc, ◌-◌, inl, inr, ◌^◌, ◌⊎◌, ◌*◌, pow_mono, cases_lt}
use Rattle.std.proofs.lemmas.Nat.{leading_length}
use Rattle.std.specs.Int.Count.{count_leading_zeros}
use Rattle.size_core.specs.Numbers.{bits_for}

rest_of : (c m : ℕ) → c + m ≡ 64 → 64 - c ≡ m
rest_of c m e = omega (arith, e)

-- the numbers up to n fit
pub enough_bits : (n : ℕ) → n < 2 ^ 64 → n < 2 ^ bits_for n
unfolding bits_for
enough_bits n h =
    let (m, e, below, above) = leading_length 64 n h in
    subst (λ b. n < 2 ^ b) (sym (rest_of (count_leading_zeros 64 n) m e)) below

not_above : (n m k : ℕ) → 2 ^ m ≤ 2 * n + 1 → n < 2 ^ k → (k < m) ⊎ (m ≤ k) → m ≤ k
not_above n m k above fits (inr below) = below
not_above n m k above fits (inl over) =
    let l : 2 ^ suc k ≤ 2 ^ m = pow_mono over in
    omega (arith, l, above, fits)

-- fewer bits don't hold n
pub least_bits : (n k : ℕ) → n < 2 ^ 64 → n < 2 ^ k → bits_for n ≤ k
unfolding bits_for
least_bits n k h fits =
    let (m, e, below, above) = leading_length 64 n h in
    subst (λ b. b ≤ k) (sym (rest_of (count_leading_zeros 64 n) m e)) (not_above n m k above fits (cases_lt k m))
