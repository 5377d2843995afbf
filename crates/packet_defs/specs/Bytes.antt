-- Numbers in captured bytes.
use Rattle.std.specs.Prelude.{ℕ, ◌+◌, nat_le, Bool, List, length, drop}
use Rattle.byteorder.specs.Endian.{big_number, little_number}

-- this many bytes are captured at this position
abbrev pub is_captured : ℕ → ℕ → List ℕ → Bool
is_captured n at bytes = nat_le (at + n) (length bytes)

-- the number in this many bytes at this position, in network byte order (big-endian)
abbrev pub number_at : ℕ → ℕ → List ℕ → ℕ
number_at n at bytes = big_number n (drop at bytes)

-- the same in little-endian order
abbrev pub little_number_at : ℕ → ℕ → List ℕ → ℕ
little_number_at n at bytes = little_number n (drop at bytes)
