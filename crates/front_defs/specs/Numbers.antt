-- Whole numbers in a range.
use Rattle.std.specs.Prelude.{◌≡◌, refl, ℕ, ◌&&◌, nat_le, if◌then◌else◌, Option, None, Some, List, [], ◌∷◌, map, codes}
use Rattle.std.specs.Option.{option_and_then}
use Rattle.text_core.specs.Decimals.{number_of}
use Rattle.front_defs.specs.declared.number.Range.{Range}

-- the whole number that an argument gives, if it is in the range
abbrev pub number_in : List ℕ → Range → Option ℕ
number_in w range = option_and_then (λ n. if nat_le range.least n && nat_le n range.most then Some n else None) (number_of w)

-- the numbers from `least` to `most`
abbrev range : ℕ → ℕ → Range
range least most = record { least = least; most = most }

overhead_has_a_range : map (λ w. number_in w (range 0 65535)) (codes "0" ∷ codes "024" ∷ codes "65535" ∷ codes "65536" ∷ []) ≡ Some 0 ∷ Some 24 ∷ Some 65535 ∷ None ∷ []
overhead_has_a_range = refl

widths_are_one_at_least : map (λ w. number_in w (range 1 4096)) (codes "0" ∷ codes "1" ∷ codes "4096" ∷ codes "4097" ∷ []) ≡ None ∷ Some 1 ∷ Some 4096 ∷ None ∷ []
widths_are_one_at_least = refl

the_greatest_limit : map (λ w. number_in w (range 0 4611686018427387903)) (codes "4611686018427387903" ∷ codes "4611686018427387904" ∷ []) ≡ Some 4611686018427387903 ∷ None ∷ []
the_greatest_limit = refl

numbers_are_digits_alone : map (λ w. number_in w (range 0 65535)) (codes "" ∷ codes "-1" ∷ codes "24B" ∷ codes "1.5" ∷ codes "0x10" ∷ []) ≡ None ∷ None ∷ None ∷ None ∷ None ∷ []
numbers_are_digits_alone = refl
