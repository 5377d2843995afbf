-- The memory, node by node.
use Rattle.std.proofs.Common.{ℕ, ◌≡◌, ◌+◌, min, arith}

-- a sum that is cut off may be cut off before as well
pub more_bits : (sum bits rest most : ℕ) → min (min (sum + bits) most + rest) most ≡ min (sum + (bits + rest)) most
more_bits sum bits rest most = grind arith
