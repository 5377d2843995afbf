-- Numbers in a capture, in its byte order. A byte is a number below 256.
use Rattle.std.specs.Prelude.{ℕ, Bool, if◌then◌else◌, List, drop}
use Rattle.byteorder.specs.Endian.{big_number, little_number}

-- the number in the n bytes at this position
abbrev pub number_at : Bool → ℕ → ℕ → List ℕ → ℕ
number_at big n at bytes = if big then big_number n (drop at bytes) else little_number n (drop at bytes)

-- the number in the four bytes at this position
abbrev pub long_at : Bool → ℕ → List ℕ → ℕ
long_at big at bytes = number_at big 4 at bytes

-- the number in the two bytes at this position
abbrev pub short_at : Bool → ℕ → List ℕ → ℕ
short_at big at bytes = number_at big 2 at bytes
