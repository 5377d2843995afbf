-- The header fields of captured bytes.
use Rattle.std.specs.Prelude.{ℕ, ◌==◌, nat_le, Bool, ◌||◌, if◌then◌else◌, List}
use Rattle.packet_defs.specs.declared.fields.Fields.{Fields}
use Rattle.packet_defs.specs.Internet.{no_fields, is_ipv4, ipv4_at, ipv6_at}
use Rattle.packet_defs.specs.Ethernet.{ethernet_fields}
use Rattle.packet_defs.specs.Loopback.{null_fields, loop_fields}
use Rattle.packet_defs.specs.Cooked.{cooked_fields, cooked_2_fields}

-- the fields of a packet that begins with an IP header of either version
abbrev pub raw_fields : List ℕ → Fields
raw_fields bytes = if is_ipv4 0 bytes then ipv4_at 0 bytes else ipv6_at 0 bytes

-- the link types of Ethernet and of raw IP (pcap-linktype)
abbrev pub ethernet_link : ℕ
ethernet_link = 1

abbrev pub raw_link : ℕ
raw_link = 101

-- the fields of captured bytes with this link type, as policies of versions 1 and 2 know them
abbrev pub fields_of : ℕ → List ℕ → Fields
fields_of link bytes =
    if link == ethernet_link then ethernet_fields bytes
    else if link == raw_link then raw_fields bytes
    else no_fields

-- The link types that version 3 adds (pcap-linktype): raw IP as some systems write it, raw IPv4 and
-- raw IPv6, loopback with a family in either byte order, and Linux cooked captures.
abbrev pub is_raw_link : ℕ → Bool
is_raw_link link = (link == 12) || (link == 14)

abbrev pub ipv4_link : ℕ
ipv4_link = 228

abbrev pub ipv6_link : ℕ
ipv6_link = 229

abbrev pub null_link : ℕ
null_link = 0

abbrev pub loop_link : ℕ
loop_link = 108

abbrev pub cooked_link : ℕ
cooked_link = 113

abbrev pub cooked_2_link : ℕ
cooked_2_link = 276

-- the fields of captured bytes with a loopback or a cooked header, or else those of the earlier
-- versions
abbrev pub headed_fields : ℕ → List ℕ → Fields
headed_fields link bytes =
    if link == null_link then null_fields bytes
    else if link == loop_link then loop_fields bytes
    else if link == cooked_link then cooked_fields bytes
    else if link == cooked_2_link then cooked_2_fields bytes
    else fields_of link bytes

-- the fields of captured bytes with this link type, as policies of version 3 know them
abbrev pub fields_known : ℕ → List ℕ → Fields
fields_known link bytes =
    if is_raw_link link then raw_fields bytes
    else if link == ipv4_link then ipv4_at 0 bytes
    else if link == ipv6_link then ipv6_at 0 bytes
    else headed_fields link bytes

-- the fields of captured bytes with this link type, for a policy of this version
abbrev pub fields_in : ℕ → ℕ → List ℕ → Fields
fields_in version link bytes = if nat_le 3 version then fields_known link bytes else fields_of link bytes
