-- Numbers as text.
use Rattle.std.specs.Prelude.{◌≡◌, refl, ℕ, ◌+◌, ◌/◌, ◌%◌, List, [], ◌∷◌, ◌++◌, decimal, codes}
use Rattle.std.specs.Fmt.{digits}

-- a number after the words before it
unfoldable pub number_text : List ℕ → ℕ → List ℕ
number_text words n = words ++ decimal n

-- the last digit of a number
abbrev pub last_digit : ℕ → ℕ
last_digit n = 48 + n % 10

-- millionths as a decimal fraction with six places
unfoldable pub millionths_text : ℕ → List ℕ
millionths_text n =
    decimal (n / 1000000)
    ++ (46 ∷ last_digit (n / 100000) ∷ last_digit (n / 10000) ∷ last_digit (n / 1000) ∷ last_digit (n / 100) ∷ last_digit (n / 10) ∷ last_digit n ∷ [])

millionths_text-less : millionths_text 987654 ≡ codes "0.987654"
unfolding millionths_text digits
millionths_text-less = refl

millionths_text-one : millionths_text 1000000 ≡ codes "1.000000"
unfolding millionths_text digits
millionths_text-one = refl

millionths_text-zeros : millionths_text 50 ≡ codes "0.000050"
unfolding millionths_text digits
millionths_text-zeros = refl
