-- The header fields that only policies of version 3 test, for each link type.
use Rattle.std.specs.Prelude.{ℕ, ◌+◌, ◌/◌, ◌==◌, Bool, ◌&&◌, if◌then◌else◌, is_some, Option, Some, None, List}
use Rattle.packet_defs.specs.declared.extra.ExtraFields.{ExtraFields}
use Rattle.packet_defs.specs.declared.extra.Header.{Header}
use Rattle.packet_defs.specs.Bytes.{is_captured, number_at}
use Rattle.packet_defs.specs.Internet.{is_ipv4, behind_ipv4, is_first_fragment, is_ipv6}
use Rattle.packet_defs.specs.Ethernet.{tag_with, type_place_from, type_place, type_at}
use Rattle.packet_defs.specs.Loopback.{ipv4_family, is_ipv6_family, host_family}
use Rattle.packet_defs.specs.Headers.{ethernet_link, raw_link, is_raw_link, ipv4_link, ipv6_link, null_link, loop_link, cooked_link, cooked_2_link, fields_in}

-- the fields of a packet that has none
abbrev pub no_extra : ExtraFields
no_extra = record { pcp = None; ethertype = None; flags = None }

-- the priority code point, in the high three bits of the tag whose type is at the first position and
-- whose id is at the second (IEEE 802.1Q)
abbrev pub priority_with : ℕ → ℕ → List ℕ → Option ℕ
priority_with at id bytes = if is_some (tag_with at id bytes) then Some (number_at 2 id bytes / 8192) else None

-- the flags of a header of this protocol at this position, if it is TCP's (RFC 9293 3.1, RFC 3168
-- 6.1)
abbrev pub flags_of : ℕ → ℕ → List ℕ → Option ℕ
flags_of proto at bytes = if (proto == 6) && is_captured 14 at bytes then Some (number_at 1 (at + 13) bytes) else None

-- the flags after an IPv4 header, if one begins at this position
abbrev pub ipv4_flags : ℕ → List ℕ → Option ℕ
ipv4_flags at bytes =
    if is_ipv4 at bytes && is_first_fragment at bytes then flags_of (number_at 1 (at + 9) bytes) (behind_ipv4 at bytes) bytes
    else None

-- the flags directly after an IPv6 header, if one begins at this position
abbrev pub ipv6_flags : ℕ → List ℕ → Option ℕ
ipv6_flags at bytes = if is_ipv6 at bytes then flags_of (number_at 1 (at + 6) bytes) (at + 40) bytes else None

-- the flags of the payload of this type at this position
abbrev pub carried_flags : Option ℕ → ℕ → List ℕ → Option ℕ
carried_flags None at bytes = None
carried_flags (Some type) at bytes =
    if type == 0x0800 then ipv4_flags at bytes
    else if type == 0x86DD then ipv6_flags at bytes
    else None

-- the fields of a packet with this priority code point and a payload of this type at this position
abbrev pub carried_extra : Option ℕ → Option ℕ → ℕ → List ℕ → ExtraFields
carried_extra priority type at bytes = record { pcp = priority; ethertype = type; flags = carried_flags type at bytes }

-- the same, if the type is at this position and the payload follows it
abbrev pub payload_extra : Option ℕ → ℕ → List ℕ → ExtraFields
payload_extra priority at bytes = carried_extra priority (type_at at bytes) (at + 2) bytes

-- the fields of a frame
abbrev pub ethernet_extra : List ℕ → ExtraFields
ethernet_extra bytes = payload_extra (priority_with 12 14 bytes) (type_place bytes) bytes

-- the fields of a packet with a cooked header, as in `cooked_at`
abbrev pub cooked_extra : ℕ → ℕ → List ℕ → ExtraFields
cooked_extra at end bytes =
    if is_some (tag_with at end bytes) then payload_extra (priority_with at end bytes) (type_place_from (end + 2) bytes) bytes
    else carried_extra None (type_at at bytes) end bytes

-- the fields of a packet that begins with an IPv4 header, and with an IPv6 header
abbrev pub ipv4_extra : List ℕ → ExtraFields
ipv4_extra bytes = if is_ipv4 0 bytes then record { pcp = None; ethertype = Some 0x0800; flags = ipv4_flags 0 bytes } else no_extra

abbrev pub ipv6_extra : List ℕ → ExtraFields
ipv6_extra bytes = if is_ipv6 0 bytes then record { pcp = None; ethertype = Some 0x86DD; flags = ipv6_flags 0 bytes } else no_extra

abbrev pub raw_extra : List ℕ → ExtraFields
raw_extra bytes = if is_ipv4 0 bytes then ipv4_extra bytes else ipv6_extra bytes

-- the fields of a payload of this address family, which is no type
abbrev pub family_extra : ℕ → List ℕ → ExtraFields
family_extra family bytes =
    if family == ipv4_family then record no_extra { flags = ipv4_flags 4 bytes }
    else if is_ipv6_family family then record no_extra { flags = ipv6_flags 4 bytes }
    else no_extra

abbrev pub null_extra : List ℕ → ExtraFields
null_extra bytes = if is_captured 4 0 bytes then family_extra (host_family bytes) bytes else no_extra

abbrev pub loop_extra : List ℕ → ExtraFields
loop_extra bytes = if is_captured 4 0 bytes then family_extra (number_at 4 0 bytes) bytes else no_extra

-- the fields of captured bytes with a frame, a loopback or a cooked header
abbrev pub headed_extra : ℕ → List ℕ → ExtraFields
headed_extra link bytes =
    if link == ethernet_link then ethernet_extra bytes
    else if link == null_link then null_extra bytes
    else if link == loop_link then loop_extra bytes
    else if link == cooked_link then cooked_extra 14 16 bytes
    else if link == cooked_2_link then cooked_extra 0 20 bytes
    else no_extra

-- the fields of captured bytes with this link type
abbrev pub extra_of : ℕ → List ℕ → ExtraFields
extra_of link bytes =
    if link == raw_link then raw_extra bytes
    else if is_raw_link link then raw_extra bytes
    else if link == ipv4_link then ipv4_extra bytes
    else if link == ipv6_link then ipv6_extra bytes
    else headed_extra link bytes

-- the header fields of captured bytes with this link type, for a policy of this version
abbrev pub header_in : ℕ → ℕ → List ℕ → Header
header_in version link bytes = record { fields = fields_in version link bytes; extra = extra_of link bytes }
