-- The conditions of a class, and the class of a packet.
use Rattle.std.specs.Prelude.{ℕ, ◌-◌, ◌/◌, ◌^◌, ◌==◌, nat_le, Bool, false, ◌&&◌, Option, Some, List, position}
use Rattle.std.specs.Option.{option_map_or}
use Rattle.std.specs.List.{list_all}
use Rattle.packet_defs.specs.declared.fields.Fields.{Fields}

-- a field that a condition bounds; `len` is the packet's original length
pub data Field : Type 0 where
  vlan : Field
  dscp : Field
  proto : Field
  sport : Field
  dport : Field
  len : Field

-- a field's range from a least to a greatest value, a prefix of an IPv4 address, or an IP version
pub data Condition : Type 0 where
  in_range : Field → ℕ → ℕ → Condition
  source : ℕ → ℕ → Condition
  target : ℕ → ℕ → Condition
  ipv4 : Condition
  ipv6 : Condition

-- the field's value, if it is present
abbrev pub value_of : Field → Fields → ℕ → Option ℕ
value_of vlan fields length = fields.vlan
value_of dscp fields length = fields.dscp
value_of proto fields length = fields.proto
value_of sport fields length = fields.sport
value_of dport fields length = fields.dport
value_of len fields length = Some length

-- the value is present and passes the test
abbrev pub is_present_and : (ℕ → Bool) → Option ℕ → Bool
is_present_and test value = option_map_or test value false

abbrev pub has_version : ℕ → Fields → Bool
has_version version fields = is_present_and (λ v. v == version) fields.version

-- two IPv4 addresses agree in this many leading bits
abbrev pub agree : ℕ → ℕ → ℕ → Bool
agree bits a b = a / 2 ^ (32 - bits) == b / 2 ^ (32 - bits)

-- A packet of this original length with these fields meets the condition. An absent field meets
-- none.
abbrev pub meets : Fields → ℕ → Condition → Bool
meets fields length (in_range field low high) = is_present_and (λ v. nat_le low v && nat_le v high) (value_of field fields length)
meets fields length (source address bits) = has_version 4 fields && is_present_and (agree bits address) fields.source
meets fields length (target address bits) = has_version 4 fields && is_present_and (agree bits address) fields.target
meets fields length ipv4 = has_version 4 fields
meets fields length ipv6 = has_version 6 fields

-- the lowest class of which the packet meets all conditions
abbrev pub class_of : List (List Condition) → Fields → ℕ → Option ℕ
class_of classes fields length = position (λ conditions. list_all (meets fields length) conditions) classes
