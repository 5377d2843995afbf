-- The numbers that digits represent.
use Rattle.std.specs.Prelude.{◌≡◌, refl, codes, ℕ, ◌&&◌, Bool, false, nat_le, if◌then◌else◌, List, [], ◌∷◌, map, Option, Some, None}
use Rattle.std.specs.Str.{all_ascii_digits}
use Rattle.std.specs.Str.Parse.{digits_value}

-- the greatest number of the language
abbrev pub max : ℕ
max = 4611686018427387903

-- at least one digit, and nothing else
abbrev pub is_numeral : List ℕ → Bool
is_numeral [] = false
is_numeral (b ∷ bs) = all_ascii_digits (b ∷ bs)

-- the number that the bytes represent: digits only, with a value up to `max`
abbrev pub number_of : List ℕ → Option ℕ
number_of bytes = if is_numeral bytes && nat_le (digits_value 10 bytes) max then Some (digits_value 10 bytes) else None

leading_zeros_are_accepted : number_of (codes "007") ≡ Some 7
leading_zeros_are_accepted = refl

the_greatest_number : number_of (codes "4611686018427387903") ≡ Some max
the_greatest_number = refl

one_more_is_too_large : number_of (codes "4611686018427387904") ≡ None
one_more_is_too_large = refl

no_digit_is_no_number : number_of (codes "") ≡ None
no_digit_is_no_number = refl

other_bytes_are_no_number : map number_of (codes "1a" ∷ codes "+1" ∷ codes "1/" ∷ codes "1:" ∷ codes " 1" ∷ []) ≡ None ∷ None ∷ None ∷ None ∷ None ∷ []
other_bytes_are_no_number = refl
