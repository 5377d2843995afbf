-- The numbers of a packet that conditions bound, each at its own index, and the test of a prepared
-- condition on them.
use Rattle.std.specs.Prelude.{ℕ, nat_le, min, Bool, ◌&&◌, if◌then◌else◌, Option, unwrap_or, List, [], ◌∷◌, slice_index}
use Rattle.std.specs.Option.{option_map_or}
use Rattle.std.specs.List.{list_all}
use Rattle.packet_defs.specs.declared.fields.Fields.{Fields}
use Rattle.packet_defs.specs.Condition.{Field, vlan, dscp, proto, sport, dport, len, has_version}
use Rattle.packet_core.specs.declared.bounds.Bounds.{Bounds}
use Rattle.packet_core.specs.declared.bounds.Prepared.{Prepared}

-- the value of an absent number, above every value that a condition allows
abbrev pub absent : ℕ
absent = 18446744073709551615

-- a number, or `absent` if it isn't present
abbrev pub number : Option ℕ → ℕ
number n = unwrap_or n absent

-- an address if it is present and the version is 4, and else `absent`; a greater address counts as
-- `absent`
abbrev pub address : Bool → Option ℕ → ℕ
address four a = if four then option_map_or (λ n. min n absent) a absent else absent

-- the index of a field
abbrev pub place : Field → ℕ
place vlan = 0
place dscp = 1
place proto = 2
place sport = 3
place dport = 4
place len = 5

-- the numbers of a packet of this original length
abbrev pub numbers_of : Fields → ℕ → List ℕ
numbers_of fields length =
    number fields.vlan ∷ number fields.dscp ∷ number fields.proto ∷ number fields.sport ∷ number fields.dport ∷ length ∷ number fields.version
    ∷ address (has_version 4 fields) fields.source ∷ address (has_version 4 fields) fields.target ∷ []

-- the number at the index is from the least to the greatest value
abbrev pub holds : List ℕ → Bounds → Bool
holds numbers bounds = nat_le bounds.low (slice_index numbers bounds.place) && nat_le (slice_index numbers bounds.place) bounds.high

-- all bounds of a class hold
abbrev pub is_met : List ℕ → Prepared → Bool
is_met numbers class = holds numbers class.first && list_all (holds numbers) class.others.items
