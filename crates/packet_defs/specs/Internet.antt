-- The header fields of IPv4 and IPv6, for a header that begins at a given position.
use Rattle.std.specs.Prelude.{ℕ, ◌+◌, ◌*◌, ◌/◌, ◌%◌, ◌==◌, nat_le, Bool, ◌&&◌, ◌||◌, if◌then◌else◌, Option, Some, None, List}
use Rattle.packet_defs.specs.declared.fields.Fields.{Fields}
use Rattle.packet_defs.specs.Bytes.{is_captured, number_at}

-- the fields of a packet that has none
abbrev pub no_fields : Fields
no_fields = record { vlan = None; version = None; dscp = None; proto = None; source = None; target = None; sport = None; dport = None }

-- the version, in the high four bits of the first byte (RFC 791 3.1, RFC 8200 3)
abbrev pub version_at : ℕ → List ℕ → ℕ
version_at at bytes = number_at 1 at bytes / 16

-- TCP (RFC 9293) and UDP (RFC 768) begin with two ports of two bytes each
abbrev pub has_ports : ℕ → ℕ → List ℕ → Bool
has_ports proto at bytes = ((proto == 6) || (proto == 17)) && is_captured 4 at bytes

abbrev pub port_at : Bool → ℕ → List ℕ → Option ℕ
port_at there at bytes = if there then Some (number_at 2 at bytes) else None

-- an IPv4 header begins at this position (RFC 791 3.1): its first 20 bytes are captured, and its
-- length field says at least 20 bytes
abbrev pub is_ipv4 : ℕ → List ℕ → Bool
is_ipv4 at bytes = is_captured 20 at bytes && (version_at at bytes == 4) && nat_le 5 (number_at 1 at bytes % 16)

-- the position after an IPv4 header, whose length field counts words of four bytes
abbrev pub behind_ipv4 : ℕ → List ℕ → ℕ
behind_ipv4 at bytes = at + 4 * (number_at 1 at bytes % 16)

-- the fragment offset is 0, so the header of the next protocol follows
abbrev pub is_first_fragment : ℕ → List ℕ → Bool
is_first_fragment at bytes = number_at 2 (at + 6) bytes % 8192 == 0

-- the ports after an IPv4 header are present
abbrev pub has_ipv4_ports : ℕ → List ℕ → Bool
has_ipv4_ports at bytes = is_first_fragment at bytes && has_ports (number_at 1 (at + 9) bytes) (behind_ipv4 at bytes) bytes

-- the fields of an IPv4 header (RFC 791 3.1, RFC 2474 3) and the ports after it
abbrev pub ipv4_fields : ℕ → List ℕ → Fields
ipv4_fields at bytes = record {
  vlan = None;
  version = Some 4;
  dscp = Some (number_at 1 (at + 1) bytes / 4);
  proto = Some (number_at 1 (at + 9) bytes);
  source = Some (number_at 4 (at + 12) bytes);
  target = Some (number_at 4 (at + 16) bytes);
  sport = port_at (has_ipv4_ports at bytes) (behind_ipv4 at bytes) bytes;
  dport = port_at (has_ipv4_ports at bytes) (behind_ipv4 at bytes + 2) bytes;
}

-- an IPv6 header begins at this position (RFC 8200 3), and its 40 bytes are captured
abbrev pub is_ipv6 : ℕ → List ℕ → Bool
is_ipv6 at bytes = is_captured 40 at bytes && (version_at at bytes == 6)

-- the traffic class, the eight bits after the version
abbrev pub traffic_class : ℕ → List ℕ → ℕ
traffic_class at bytes = number_at 2 at bytes / 16 % 256

abbrev pub has_ipv6_ports : ℕ → List ℕ → Bool
has_ipv6_ports at bytes = has_ports (number_at 1 (at + 6) bytes) (at + 40) bytes

-- the fields of an IPv6 header (RFC 8200 3, RFC 2474 3) and the ports directly after it
abbrev pub ipv6_fields : ℕ → List ℕ → Fields
ipv6_fields at bytes = record {
  vlan = None;
  version = Some 6;
  dscp = Some (traffic_class at bytes / 4);
  proto = Some (number_at 1 (at + 6) bytes);
  source = Some (number_at 16 (at + 8) bytes);
  target = Some (number_at 16 (at + 24) bytes);
  sport = port_at (has_ipv6_ports at bytes) (at + 40) bytes;
  dport = port_at (has_ipv6_ports at bytes) (at + 42) bytes;
}

-- the fields if an IPv4 header is expected at this position, and if an IPv6 header is
abbrev pub ipv4_at : ℕ → List ℕ → Fields
ipv4_at at bytes = if is_ipv4 at bytes then ipv4_fields at bytes else no_fields

abbrev pub ipv6_at : ℕ → List ℕ → Fields
ipv6_at at bytes = if is_ipv6 at bytes then ipv6_fields at bytes else no_fields
