-- The number that digits represent when they follow the digits of another.
use Rattle.text_core.proofs.Prelude.{length, ◌≡◌, arith, ◌+◌, List, [], ◌∷◌, ◌≤◌, Some, refl, ℕ, ◌-◌, true, ◌<◌, None, Option, ◌&&◌, ◌*◌, ◌/◌, le-leb, lt-leb, nat_tests, decimal, if◌then◌else◌, nat_le, all_ascii_digits, is_numeral, max, number_of}
use Rattle.std.specs.Char.{digit_value, is_ascii_digit}
use Rattle.std.specs.Str.Parse.{AllDigits, digits_value, digits_value_after}
use Rattle.std.specs.Int.{IsInRange}
use Rattle.std.proofs.lemmas.Fmt.{decimal_is_IsNumeral}
use Rattle.std.proofs.lemmas.Str.Parse.{digit_from_value}
use Rattle.std.proofs.lemmas.Str.{digit_value_digit}
use Rattle.std.proofs.Math.Bool.{and-false}

-- the number that the digits of n followed by these bytes represent
abbrev pub number_after : ℕ → List ℕ → Option ℕ
number_after n bs = if all_ascii_digits bs && nat_le (digits_value_after 10 n bs) max then Some (digits_value_after 10 n bs) else None

-- more digits never make a number smaller
pub digits_value_after-least : (n : ℕ) (bs : List ℕ) → n ≤ digits_value_after 10 n bs
digits_value_after-least n [] = omega arith
digits_value_after-least n (b ∷ bs) =
    let more = digits_value_after-least (n * 10 + digit_value b) bs in
    omega arith

-- a number that is too large stays too large
pub number_after-large : (n : ℕ) (bs : List ℕ) → max < n → number_after n bs ≡ None
number_after-large n bs large =
    let least = digits_value_after-least n bs in
    let above : max < digits_value_after 10 n bs = omega arith in
    rw (lt-leb (digits_value_after 10 n bs) max above, and-false (all_ascii_digits bs)) refl

pub digit_range : (b : ℕ) → is_ascii_digit b ≡ true → IsInRange 48 57 b
digit_range b digit = grind (arith, nat_tests)

-- one more digit makes it too large
pub number_after-stop : (n b : ℕ) (bs : List ℕ) → is_ascii_digit b ≡ true → (max - (b - 48)) / 10 < n → number_after n (b ∷ bs) ≡ None
number_after-stop n b bs digit large =
    let value = digit_value_digit b (digit_range b digit) in
    rw digit (number_after-large (n * 10 + digit_value b) bs (omega arith))

digit_test : (b : ℕ) → IsInRange 48 57 b → is_ascii_digit b ≡ true
digit_test b range = rw (le-leb 48 b range.0, le-leb b 57 range.1) refl

digits_test : (ds : List ℕ) → AllDigits 10 ds → all_ascii_digits ds ≡ true
digits_test [] all = refl
digits_test (d ∷ ds) all = rw (digit_test d (digit_from_value d all.0), digits_test ds all.1) refl

numeral_test : (ds : List ℕ) → 0 < length ds → all_ascii_digits ds ≡ true → is_numeral ds ≡ true
numeral_test [] some all = absurd (omega arith)
numeral_test (d ∷ ds) some all = all

-- a number prints as digits only
pub decimal-digits : (n : ℕ) → n ≤ max → all_ascii_digits (decimal n) ≡ true
decimal-digits n low = digits_test (decimal n) (decimal_is_IsNumeral n (omega arith)).0.1

pub decimal-numeral : (n : ℕ) → n ≤ max → is_numeral (decimal n) ≡ true
decimal-numeral n low = numeral_test (decimal n) (decimal_is_IsNumeral n (omega arith)).0.0 (decimal-digits n low)

-- and reads back as the same number
pub number_of-decimal : (n : ℕ) → n ≤ max → number_of (decimal n) ≡ Some n
number_of-decimal n low =
    let written = decimal_is_IsNumeral n (omega arith) in
    let numeral = decimal-numeral n low in
    let value : digits_value 10 (decimal n) ≡ n = written.1 in
    rw (numeral, value, le-leb n max low) refl
