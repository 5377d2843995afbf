-- The headers of Linux cooked captures (LINKTYPE_LINUX_SLL, LINKTYPE_LINUX_SLL2). VLAN tags can
-- follow, as in a frame (IEEE 802.1Q).
use Rattle.std.specs.Prelude.{ℕ, ◌+◌, if◌then◌else◌, is_some, List}
use Rattle.packet_defs.specs.declared.fields.Fields.{Fields}
use Rattle.packet_defs.specs.Ethernet.{tag_with, type_place_from, type_at, carried_fields, payload_fields}

-- the fields of a packet whose header has the protocol type at the first position and ends at the
-- second
abbrev pub cooked_at : ℕ → ℕ → List ℕ → Fields
cooked_at at end bytes =
    if is_some (tag_with at end bytes) then record (payload_fields (type_place_from (end + 2) bytes) bytes) { vlan = tag_with at end bytes }
    else carried_fields (type_at at bytes) end bytes

-- a header of version 1 has 16 bytes, and the type in its last two
abbrev pub cooked_fields : List ℕ → Fields
cooked_fields bytes = cooked_at 14 16 bytes

-- a header of version 2 has 20 bytes, and the type in its first two
abbrev pub cooked_2_fields : List ℕ → Fields
cooked_2_fields bytes = cooked_at 0 20 bytes
