-- The numbers of a generated load: a 64-bit linear congruential generator whose upper 31 bits are
-- the output.
use Rattle.std.specs.Prelude.{◌≡◌, refl, ℕ, ◌+◌, ◌*◌, ◌/◌, ◌%◌, map, [], ◌∷◌}

-- the next state (the multiplier and the increment are Knuth's for MMIX)
abbrev pub next_draw : ℕ → ℕ
next_draw x = (x * 6364136223846793005 + 1442695040888963407) % 18446744073709551616

-- the output for a state
abbrev pub drawn : ℕ → ℕ
drawn x = x / 8589934592

-- the next state follows from the state, not from the output; it has 64 bits
draws_of_seed_0 : map drawn (next_draw 0 ∷ next_draw (next_draw 0) ∷ next_draw (next_draw (next_draw 0)) ∷ []) ≡ 167951807 ∷ 218396424 ∷ 1299921937 ∷ []
draws_of_seed_0 = refl
