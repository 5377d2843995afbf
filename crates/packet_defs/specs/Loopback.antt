-- The headers of loopback captures: an address family of four bytes (LINKTYPE_NULL, LINKTYPE_LOOP).
use Rattle.std.specs.Prelude.{ℕ, ◌==◌, nat_lt, Bool, ◌||◌, if◌then◌else◌, List}
use Rattle.packet_defs.specs.declared.fields.Fields.{Fields}
use Rattle.packet_defs.specs.Bytes.{is_captured, number_at, little_number_at}
use Rattle.packet_defs.specs.Internet.{no_fields, ipv4_at, ipv6_at}

-- the address family of IPv4 on all systems
abbrev pub ipv4_family : ℕ
ipv4_family = 2

-- the address families of IPv6: of NetBSD and OpenBSD, of FreeBSD, and of Darwin
abbrev pub is_ipv6_family : ℕ → Bool
is_ipv6_family family = (family == 24) || (family == 28) || (family == 30)

-- the fields of a payload of this address family, after its four bytes
abbrev pub family_fields : ℕ → List ℕ → Fields
family_fields family bytes =
    if family == ipv4_family then ipv4_at 4 bytes
    else if is_ipv6_family family then ipv6_at 4 bytes
    else no_fields

-- the family in the byte order of the capturing machine. Families are below 2 ^ 16, which gives the
-- order.
abbrev pub host_family : List ℕ → ℕ
host_family bytes = if nat_lt (number_at 4 0 bytes) 65536 then number_at 4 0 bytes else little_number_at 4 0 bytes

-- the fields of a packet whose family is in the byte order of the capturing machine
abbrev pub null_fields : List ℕ → Fields
null_fields bytes = if is_captured 4 0 bytes then family_fields (host_family bytes) bytes else no_fields

-- the fields of a packet whose family is in network byte order
abbrev pub loop_fields : List ℕ → Fields
loop_fields bytes = if is_captured 4 0 bytes then family_fields (number_at 4 0 bytes) bytes else no_fields
