-- A number whose bits are among those of another isn't above it.
use Rattle.std.proofs.Common.{ℕ, ◌<◌, bit_or, arith}
use Rattle.std.proofs.lemmas.Nat.{le_or_l, le_or_r}

pub both_below : (a b m : ℕ) → bit_or a b < m → (a < m) × (b < m)
both_below a b m less = (omega (arith, le_or_l a b, less), omega (arith, le_or_r a b, less))
