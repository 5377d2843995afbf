-- Numbers as text, and their bits.
use Rattle.std.specs.Prelude.{◌≡◌, refl, ℕ, ◌-◌, map, List, [], ◌∷◌, ◌++◌, decimal}
use Rattle.std.specs.Int.{w64, leading_zeros}
use Rattle.std.specs.Int.Count.{count_leading_zeros}

-- the number of bits of a field that holds the numbers from 0 to n, which is below 2^64
unfoldable pub bits_for : ℕ → ℕ
bits_for n = 64 - leading_zeros w64 n

-- a number after the words before it
unfoldable pub number_text : List ℕ → ℕ → List ℕ
number_text words n = words ++ decimal n

bits_for-rows : map bits_for (0 ∷ 1 ∷ 2 ∷ 3 ∷ 4 ∷ 1023 ∷ 1024 ∷ 1500 ∷ 18446744073709551615 ∷ []) ≡ 0 ∷ 1 ∷ 2 ∷ 2 ∷ 3 ∷ 10 ∷ 11 ∷ 11 ∷ 64 ∷ []
unfolding bits_for count_leading_zeros
bits_for-rows = refl
