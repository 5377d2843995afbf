-- The tests of a class of version 3, and the class of a packet.
use Rattle.std.specs.Prelude.{ℕ, ◌-◌, ◌/◌, ◌^◌, ◌==◌, nat_le, Bool, true, not, ◌&&◌, if◌then◌else◌, Option, Some, List, [], ◌∷◌, position}
use Rattle.std.specs.List.{list_all, list_any}
use Rattle.std.specs.Int.Bits.{bit_and}
use Rattle.packet_defs.specs.declared.extra.Header.{Header}
use Rattle.packet_defs.specs.Condition.{Field, value_of, is_present_and, has_version, agree}

-- a field of a test: one that a condition bounds, or one that only tests name
pub data TestField : Type 0 where
  named : Field → TestField
  pcp : TestField
  ethertype : TestField

-- the values from the least to the greatest
pub record Range : Type 0 where
  pub low : ℕ
  pub high : ℕ

-- an address of IPv4 or IPv6, and how many of its leading bits count
pub data Prefix : Type 0 where
  v4 : ℕ → ℕ → Prefix
  v6 : ℕ → ℕ → Prefix

-- a field is in one of the ranges; a source or destination address has the prefix; the TCP flags of
-- a mask are those of a value (first the value, then the mask); the IP version
pub data Probe : Type 0 where
  among : TestField → List Range → Probe
  source : Prefix → Probe
  target : Prefix → Probe
  flags : ℕ → ℕ → Probe
  ipv4 : Probe
  ipv6 : Probe

-- a probe that holds, or that doesn't
pub record Test : Type 0 where
  pub negated : Bool
  pub probe : Probe

-- the field's value, if it is present
abbrev pub number_of : TestField → Header → ℕ → Option ℕ
number_of (named field) header length = value_of field header.fields length
number_of pcp header length = header.extra.pcp
number_of ethertype header length = header.extra.ethertype

abbrev pub is_in : ℕ → Range → Bool
is_in v range = nat_le range.low v && nat_le v range.high

-- the value is in one of the ranges
abbrev pub is_among : List Range → ℕ → Bool
is_among ranges v = list_any (is_in v) ranges

-- two IPv6 addresses agree in this many leading bits
abbrev pub agree_6 : ℕ → ℕ → ℕ → Bool
agree_6 bits a b = a / 2 ^ (128 - bits) == b / 2 ^ (128 - bits)

-- the packet has the prefix's version, and its address agrees with that of the prefix
abbrev pub has_prefix : Prefix → Header → Option ℕ → Bool
has_prefix (v4 a bits) header address = has_version 4 header.fields && is_present_and (agree bits a) address
has_prefix (v6 a bits) header address = has_version 6 header.fields && is_present_and (agree_6 bits a) address

-- the flags of the mask are those of the value
abbrev pub have_flags : ℕ → ℕ → ℕ → Bool
have_flags value mask given = bit_and given mask == value

-- The probe holds for a packet of this original length. It doesn't hold if its field is absent.
abbrev pub is_found : Header → ℕ → Probe → Bool
is_found header length (among field ranges) = is_present_and (is_among ranges) (number_of field header length)
is_found header length (source prefix) = has_prefix prefix header header.fields.source
is_found header length (target prefix) = has_prefix prefix header header.fields.target
is_found header length (flags value mask) = is_present_and (have_flags value mask) header.extra.flags
is_found header length ipv4 = has_version 4 header.fields
is_found header length ipv6 = has_version 6 header.fields

-- the probe holds, or doesn't if the test is negated; so an absent field meets a negated test
abbrev pub passes : Header → ℕ → Test → Bool
passes header length test = if test.negated then not (is_found header length test.probe) else is_found header length test.probe

-- one of the alternatives holds, if there are any; an alternative holds if all its tests do
abbrev pub belongs : Header → ℕ → List (List Test) → Bool
belongs header length [] = true
belongs header length (tests ∷ others) = list_any (list_all (passes header length)) (tests ∷ others)

-- the lowest class to which the packet belongs
abbrev pub class_among : List (List (List Test)) → Header → ℕ → Option ℕ
class_among classes header length = position (belongs header length) classes
