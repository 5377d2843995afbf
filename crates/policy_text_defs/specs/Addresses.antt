-- The form of IPv4 addresses, over complete lists of tokens.
use Rattle.std.specs.Prelude.{◌≡◌, refl, ℕ, ◌+◌, ◌*◌, ◌≤◌, List, [], ◌∷◌, ◌++◌}
use Rattle.text_core.specs.declared.mark.Mark.TheVariants as m
use Rattle.text_core.specs.Glyphs.{Glyph, figure, sign}
use Rattle.policy_text_defs.specs.Ranges.{most_octet, most_prefix}

-- the four numbers of an IPv4 address
pub record Octets : Type 0 where
  pub first : ℕ
  pub second : ℕ
  pub third : ℕ
  pub fourth : ℕ

pub record AreOctets (o : Octets) : Type 0 where
  pub first : o.first ≤ most_octet
  pub second : o.second ≤ most_octet
  pub third : o.third ≤ most_octet
  pub fourth : o.fourth ≤ most_octet

abbrev pub address_of : Octets → ℕ
address_of o = o.first * 16777216 + o.second * 65536 + o.third * 256 + o.fourth

-- N.N.N.N
abbrev pub octet_tokens : Octets → List Glyph
octet_tokens o = figure o.first ∷ sign m.Dot ∷ figure o.second ∷ sign m.Dot ∷ figure o.third ∷ sign m.Dot ∷ figure o.fourth ∷ []

-- A: `N.N.N.N` or `N.N.N.N/L`, which gives an address and the length of its prefix
pub data Address : List Glyph → ℕ → ℕ → Type 0 where
  whole : (o : Octets) → AreOctets o → Address (octet_tokens o) (address_of o) most_prefix
  prefix : (o : Octets) (l : ℕ) → AreOctets o → l ≤ most_prefix → Address (octet_tokens o ++ sign m.Slash ∷ figure l ∷ []) (address_of o) l

-- the first number is the most significant
bytes_of_an_address : address_of (record { first = 10; second = 9; third = 0; fourth = 1 }) ≡ 168361985
bytes_of_an_address = refl
