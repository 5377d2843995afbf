-- The leading digits of a number.
use Rattle.std.specs.Prelude.{ℕ, List, ◌≡◌, ◌+◌, ◌*◌, ◌/◌, ◌%◌, ◌<◌, ◌≤◌, [], ◌∷◌, ◌++◌, length, take, decimal}

-- the first `count` bytes are the digits of the quotient of `least` by `unit`, and there is no rest
pub record AreLeading (unit least count : ℕ) (bytes : List ℕ) : Type 0 where
  pub leading : ℕ
  pub unit_some : 1 ≤ unit
  pub some : 1 ≤ leading
  pub small : least < 18446744073709551616
  pub round : least ≡ unit * leading
  pub within : count ≤ length bytes
  pub text : take count bytes ≡ decimal leading

-- the number has the leading digits of `least`
pub record IsNear (unit least value : ℕ) : Type 0 where
  pub low : least ≤ value
  pub high : value < least + unit

-- the text is this one, with the leading digits of `least` after it
abbrev pub IsAfter : List ℕ → ℕ → ℕ → List ℕ → Type 0
IsAfter before unit least text = (n : ℕ) → least ≡ unit * n → text ≡ before ++ decimal n

-- the two digits of a number below 100
abbrev pub pair : ℕ → List ℕ
pair n = (48 + n / 10) ∷ (48 + n % 10) ∷ []
