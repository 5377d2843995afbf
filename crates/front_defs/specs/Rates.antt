-- Rates with units: a number with a unit, and the exact number of bytes per second that it gives.
use Rattle.std.specs.Prelude.{◌≡◌, refl, ℕ, ◌+◌, ◌*◌, ◌^◌, ◌/◌, ◌%◌, ◌==◌, nat_le, ◌&&◌, ◌||◌, if◌then◌else◌, Option, None, Some, option_map, Result, Ok, Err, List, [], ◌∷◌, length, take, drop, map, codes}
use Rattle.std.specs.List.{prefix_len}
use Rattle.std.specs.Option.{option_map_or}
use Rattle.std.specs.Str.{bytes_eq}
use Rattle.sched_defs.specs.SendTime.{most_rate}
use Rattle.text_core.specs.Decimals.{number_of}
use Rattle.text_core.specs.Tokens.{is_digit}
use Rattle.front_defs.specs.declared.unit.Unit.{Unit}
use Rattle.front_defs.specs.declared.rate.RateFault.{RateFault}
use Rattle.front_defs.specs.declared.rate.RateFault.TheVariants as f

-- ---- units
-- how many of these make a byte
abbrev pub parts_of : List ℕ → Option ℕ
parts_of name = if bytes_eq name (codes "B") then Some 1 else (if bytes_eq name (codes "bit") then Some 8 else None)

-- the factors 10^3, 10^6, 10^9 and 10^12 of the letters k, M, G and T, in either case
abbrev pub scale_of : ℕ → Option ℕ
scale_of letter =
    if letter == 107 || letter == 75 then Some (10 ^ 3)
    else (if letter == 109 || letter == 77 then Some (10 ^ 6)
    else (if letter == 103 || letter == 71 then Some (10 ^ 9)
    else (if letter == 116 || letter == 84 then Some (10 ^ 12) else None)))

abbrev pub scaled : ℕ → Option ℕ → Option Unit
scaled scale parts = option_map (λ p. record { scale = scale; parts = p }) parts

-- the unit of this name: bytes if the name is empty, otherwise `B` or `bit`, with or without a
-- letter for its scale before it
abbrev pub unit_of : List ℕ → Option Unit
unit_of [] = Some (record { scale = 1; parts = 1 })
unit_of (letter ∷ base) = option_map_or (λ scale. scaled scale (parts_of base)) (scale_of letter) (scaled 1 (parts_of (letter ∷ base)))

-- ---- numbers
-- the digits at the start of the bytes
abbrev pub digits : List ℕ → List ℕ
digits w = take (prefix_len is_digit w) w

-- the bytes after those digits
abbrev pub past_digits : List ℕ → List ℕ
past_digits w = drop (prefix_len is_digit w) w

-- the digits of a number, its digits after a point, and its unit
pub record Written : Type 0 where
  pub whole : List ℕ
  pub part : List ℕ
  pub unit : List ℕ

-- digits after a point, if there is a point
abbrev pub written_behind : List ℕ → List ℕ → Written
written_behind whole [] = record { whole = whole; part = codes "0"; unit = [] }
written_behind whole (b ∷ bs) =
    if b == 46 then record { whole = whole; part = digits bs; unit = past_digits bs }
    else record { whole = whole; part = codes "0"; unit = b ∷ bs }

abbrev pub written : List ℕ → Written
written w = written_behind (digits w) (past_digits w)

-- the greatest whole number, which is one in bits: eight for each byte of the greatest rate
abbrev pub most_whole : ℕ
most_whole = 8 * most_rate

-- the most digits after a point
abbrev pub most_digits : ℕ
most_digits = 12

-- ---- rates
-- `count` parts of a byte in bytes per second, where `parts` of them make a byte
abbrev pub whole_bytes : ℕ → ℕ → Result ℕ RateFault
whole_bytes count parts =
    if (count % parts) == 0 then (if nat_le 1 (count / parts) && nat_le (count / parts) most_rate then Ok (count / parts) else Err f.OutOfRange)
    else Err f.NotExact

-- a number of units in bytes per second; `places` is the number of digits after the point
abbrev pub rate_by : ℕ → ℕ → ℕ → Unit → Result ℕ RateFault
rate_by whole part places unit = whole_bytes ((whole * 10 ^ places + part) * unit.scale) (10 ^ places * unit.parts)

-- the same from the numbers that the digits give, if they give any
abbrev pub rate_of_digits : Option ℕ → Option ℕ → ℕ → Unit → Result ℕ RateFault
rate_of_digits (Some whole) (Some part) places unit = if nat_le whole most_whole then rate_by whole part places unit else Err f.OutOfRange
rate_of_digits (Some whole) None places unit = Err f.NoNumber
rate_of_digits None part places unit = Err f.NoNumber

abbrev pub rate_written : Written → Result ℕ RateFault
rate_written w =
    if nat_le (length w.part) most_digits
    then option_map_or (rate_of_digits (number_of w.whole) (number_of w.part) (length w.part)) (unit_of w.unit) (Err f.NoUnit)
    else Err f.TooFine

-- the bytes per second that an argument gives, or why it is not a rate
abbrev pub rate_in : List ℕ → Result ℕ RateFault
rate_in w = rate_written (written w)

bytes_a_second : map rate_in (codes "125000" ∷ codes "125000B" ∷ codes "0125kB" ∷ []) ≡ Ok 125000 ∷ Ok 125000 ∷ Ok 125000 ∷ []
bytes_a_second = refl

bits_are_eighths : map rate_in (codes "10Mbit" ∷ codes "10mbit" ∷ codes "8bit" ∷ codes "8Tbit" ∷ []) ≡ Ok 1250000 ∷ Ok 1250000 ∷ Ok 1 ∷ Ok 1000000000000 ∷ []
bits_are_eighths = refl

ten_gigabits : rate_in (codes "10gbit") ≡ Ok 1250000000
ten_gigabits = refl

a_thousand_is_no_1024 : map rate_in (codes "1kB" ∷ codes "1.25MB" ∷ codes "1.250MB" ∷ []) ≡ Ok 1000 ∷ Ok 1250000 ∷ Ok 1250000 ∷ []
a_thousand_is_no_1024 = refl

nothing_is_rounded : map rate_in (codes "12bit" ∷ codes "1.5" ∷ codes "0.0001kB" ∷ codes "1.5bit" ∷ []) ≡ Err f.NotExact ∷ Err f.NotExact ∷ Err f.NotExact ∷ Err f.NotExact ∷ []
nothing_is_rounded = refl

rates_have_a_range : map rate_in (codes "0" ∷ codes "0bit" ∷ codes "1TB" ∷ codes "1.000000000001TB" ∷ codes "9Tbit" ∷ []) ≡ Err f.OutOfRange ∷ Err f.OutOfRange ∷ Ok 1000000000000 ∷ Err f.OutOfRange ∷ Err f.OutOfRange ∷ []
rates_have_a_range = refl

other_units_are_none : map rate_in (codes "10Mb" ∷ codes "10mbps" ∷ codes "10 Mbit" ∷ codes "10MBIT" ∷ codes "10k" ∷ []) ≡ Err f.NoUnit ∷ Err f.NoUnit ∷ Err f.NoUnit ∷ Err f.NoUnit ∷ Err f.NoUnit ∷ []
other_units_are_none = refl

numbers_have_digits : map rate_in (codes "" ∷ codes "Mbit" ∷ codes ".5MB" ∷ codes "5.MB" ∷ []) ≡ Err f.NoNumber ∷ Err f.NoNumber ∷ Err f.NoNumber ∷ Err f.NoNumber ∷ []
numbers_have_digits = refl

twelve_digits_at_most : map rate_in (codes "0.000000000008Tbit" ∷ codes "0.0000000000080Tbit" ∷ []) ≡ Ok 1 ∷ Err f.TooFine ∷ []
twelve_digits_at_most = refl
