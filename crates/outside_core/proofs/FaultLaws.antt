use Rattle.std.proofs.Common.{◌≡◌, ◌<◌, ◌≤◌, ◌-◌, ◌^◌, ◌↔◌, ℕ, ◌⊎◌, inl, inr, arith}
use Rattle.outside_core.specs.Faults.{Rose}

-- a count that rose, and later didn't fall, rose over the whole
pub rose_then : (a b c : ℕ) → Rose a b → b ≤ c → Rose a c
rose_then a b c rose later = omega (arith, rose, later)

-- a count that didn't fall, and later rose, rose over the whole
pub rose_after : (a b c : ℕ) → a ≤ b → Rose b c → Rose a c
rose_after a b c later rose = omega (arith, rose, later)

-- a 64-bit count rose exactly if it is greater or is at its last value
pub rose_greater_or_last : (before now : ℕ) → now < 2 ^ 64 → Rose before now ↔ ((before < now) ⊎ (now ≡ 2 ^ 64 - 1))
rose_greater_or_last before now bound = (λ rose. grind (arith, rose, bound), λ either. elim either [ inl more ↦ omega (arith, more, bound) | inr last ↦ omega (arith, last) ])
