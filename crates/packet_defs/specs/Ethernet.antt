-- The header of an Ethernet II frame and its VLAN tags (IEEE 802.1Q).
use Rattle.std.specs.Prelude.{ℕ, ◌+◌, ◌%◌, ◌==◌, Bool, ◌&&◌, ◌||◌, if◌then◌else◌, is_some, Option, Some, None, List}
use Rattle.packet_defs.specs.declared.fields.Fields.{Fields}
use Rattle.packet_defs.specs.Bytes.{is_captured, number_at}
use Rattle.packet_defs.specs.Internet.{no_fields, ipv4_at, ipv6_at}

-- the types of customer tags and of service tags
abbrev pub is_tag_type : ℕ → Bool
is_tag_type type = (type == 0x8100) || (type == 0x88A8)

-- the VLAN id of a tag whose type is at the first position and whose id is at the second, if the
-- type after the tag is captured too
abbrev pub tag_with : ℕ → ℕ → List ℕ → Option ℕ
tag_with at id bytes =
    if is_captured 4 id bytes && is_tag_type (number_at 2 at bytes) then Some (number_at 2 id bytes % 4096) else None

-- the VLAN id of a tag at this position
abbrev pub tag_at : ℕ → List ℕ → Option ℕ
tag_at at bytes = tag_with at (at + 2) bytes

-- the position of the type, if a tag can be at this position
abbrev pub type_place_from : ℕ → List ℕ → ℕ
type_place_from at bytes = if is_some (tag_at at bytes) then at + 4 else at

-- the position of the type of a frame, after the two addresses and at most two tags
abbrev pub type_place : List ℕ → ℕ
type_place bytes = if is_some (tag_at 12 bytes) then type_place_from 16 bytes else 12

-- the type at this position, if it is captured
abbrev pub type_at : ℕ → List ℕ → Option ℕ
type_at at bytes = if is_captured 2 at bytes then Some (number_at 2 at bytes) else None

-- the fields of the payload of this type at this position
abbrev pub carried_fields : Option ℕ → ℕ → List ℕ → Fields
carried_fields None at bytes = no_fields
carried_fields (Some type) at bytes =
    if type == 0x0800 then ipv4_at at bytes
    else if type == 0x86DD then ipv6_at at bytes
    else no_fields

-- the fields of the payload after the type at this position
abbrev pub payload_fields : ℕ → List ℕ → Fields
payload_fields at bytes = carried_fields (type_at at bytes) (at + 2) bytes

-- the fields of a frame: the VLAN id of its first tag, and the fields of its payload
abbrev pub ethernet_fields : List ℕ → Fields
ethernet_fields bytes = record (payload_fields (type_place bytes) bytes) { vlan = tag_at 12 bytes }
