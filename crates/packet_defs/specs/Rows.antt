-- Captured bytes and their fields.
use Rattle.std.specs.Prelude.{◌≡◌, ℕ, true, false, Some, None, List, [], ◌∷◌, ◌++◌, map, take, drop, replicate, refl}
use Rattle.packet_defs.specs.declared.fields.Fields.{Fields}
use Rattle.packet_defs.specs.Internet.{no_fields}
use Rattle.packet_defs.specs.Headers.{fields_of}
use Rattle.packet_defs.specs.Flow.{flow_of}
use Rattle.packet_defs.specs.Condition.{Field, vlan, dscp, proto, sport, dport, len, Condition, in_range, source, target, ipv4, ipv6, value_of, meets, class_of}

-- the two addresses of a frame
abbrev pub addresses : List ℕ
addresses = replicate 12 0

abbrev pub tag_7 : List ℕ
tag_7 = 0x81 ∷ 0x00 ∷ 0x00 ∷ 0x07 ∷ []

-- UDP from port 4096 of 10.0.0.1 to port 53 of 10.0.0.2, with codepoint 46 and both congestion
-- bits; the arguments are the two bytes of the flags and the fragment offset
abbrev pub fragment : ℕ → ℕ → List ℕ
fragment high low =
    (0x45 ∷ 0xBB ∷ 0x00 ∷ 0x1C ∷ 0x00 ∷ 0x00 ∷ high ∷ low ∷ []) ++ (0x40 ∷ 0x11 ∷ 0x00 ∷ 0x00 ∷ [])
    ++ (0x0A ∷ 0x00 ∷ 0x00 ∷ 0x01 ∷ 0x0A ∷ 0x00 ∷ 0x00 ∷ 0x02 ∷ []) ++ (0x10 ∷ 0x00 ∷ 0x00 ∷ 0x35 ∷ 0x00 ∷ 0x08 ∷ 0x00 ∷ 0x00 ∷ [])

-- the same, unfragmented
abbrev pub datagram : List ℕ
datagram = fragment 0 0

abbrev pub ipv4_type : List ℕ
ipv4_type = 0x08 ∷ 0x00 ∷ []

abbrev pub datagram_fields : Fields
datagram_fields =
    record { vlan = None; version = Some 4; dscp = Some 46; proto = Some 17; source = Some 167772161; target = Some 167772162; sport = Some 4096; dport = Some 53 }

abbrev pub fragment_fields : Fields
fragment_fields = record datagram_fields { sport = None; dport = None }

pub tagged : fields_of 1 (addresses ++ tag_7 ++ ipv4_type ++ datagram) ≡ record datagram_fields { vlan = Some 7 }
tagged = refl

pub untagged : fields_of 1 (addresses ++ ipv4_type ++ datagram) ≡ datagram_fields
untagged = refl

-- a tag's VLAN id is its low 12 bits
pub priority_bits : fields_of 1 (addresses ++ (0x81 ∷ 0x00 ∷ 0xFA ∷ 0xBC ∷ []) ++ ipv4_type ++ datagram) ≡ record datagram_fields { vlan = Some 2748 }
priority_bits = refl

-- any bit of the fragment offset marks a later fragment; the three flags before it don't
pub later_fragments : map (λ low. fields_of 1 (addresses ++ ipv4_type ++ fragment 0 low)) (1 ∷ 128 ∷ []) ≡ fragment_fields ∷ fragment_fields ∷ []
later_fragments = refl

pub flags_and_high_offsets : map (λ high. fields_of 101 (fragment high 0)) (0xE0 ∷ 0x01 ∷ 0x10 ∷ []) ≡ datagram_fields ∷ fragment_fields ∷ fragment_fields ∷ []
flags_and_high_offsets = refl

-- the first of two tags counts, and a third tag isn't parsed
pub two_tags : fields_of 1 (addresses ++ tag_7 ++ (0x88 ∷ 0xA8 ∷ 0x00 ∷ 0x09 ∷ []) ++ ipv4_type ++ datagram) ≡ record datagram_fields { vlan = Some 7 }
two_tags = refl

pub three_tags : fields_of 1 (addresses ++ tag_7 ++ tag_7 ++ tag_7 ++ ipv4_type ++ datagram) ≡ record no_fields { vlan = Some 7 }
three_tags = refl

-- a cut tag gives no VLAN id
pub cut_tag : fields_of 1 (addresses ++ tag_7) ≡ no_fields
cut_tag = refl

-- a tag that is captured up to the type after it is complete, and that type may be any
pub tag_lengths : map (λ n. fields_of 1 (take n (addresses ++ tag_7 ++ 0x08 ∷ 0x06 ∷ []))) (17 ∷ 18 ∷ []) ≡ no_fields ∷ record no_fields { vlan = Some 7 } ∷ []
tag_lengths = refl

pub other_type : fields_of 1 (addresses ++ (0x08 ∷ 0x06 ∷ []) ++ datagram) ≡ no_fields
other_type = refl

pub raw : fields_of 101 datagram ≡ datagram_fields
raw = refl

-- an IPv4 header has 20 bytes, and the ports 4
pub captured_parts : map (λ n. fields_of 101 (take n datagram)) (19 ∷ 20 ∷ 23 ∷ 24 ∷ []) ≡ no_fields ∷ fragment_fields ∷ fragment_fields ∷ datagram_fields ∷ []
captured_parts = refl

pub other_link_types : map (λ link. fields_of link datagram) (100 ∷ 102 ∷ 147 ∷ []) ≡ no_fields ∷ no_fields ∷ no_fields ∷ []
other_link_types = refl

-- the datagram with another protocol
abbrev pub with_protocol : ℕ → List ℕ
with_protocol p = take 9 datagram ++ p ∷ drop 10 datagram

-- TCP has ports too; ICMP has none
pub tcp : fields_of 101 (with_protocol 6) ≡ record datagram_fields { proto = Some 6 }
tcp = refl

pub icmp : fields_of 101 (with_protocol 1) ≡ record fragment_fields { proto = Some 1 }
icmp = refl

pub flow_of-nothing : flow_of no_fields ≡ record { version = 0; source = 0; target = 0; proto = 0; sport = 0; dport = 0 }
flow_of-nothing = refl

pub flow_of-datagram : flow_of datagram_fields ≡ record { version = 4; source = 167772161; target = 167772162; proto = 17; sport = 4096; dport = 53 }
flow_of-datagram = refl

-- the longest options before the ports
pub options : fields_of 101 ((0x4F ∷ take 19 (drop 1 datagram)) ++ replicate 40 1 ++ drop 20 datagram) ≡ datagram_fields
options = refl

-- a header of another version, or with a length field below 20 bytes, isn't recognized
pub other_first_bytes : map (λ first. fields_of 101 (first ∷ drop 1 datagram)) (0x05 ∷ 0x35 ∷ 0x55 ∷ 0x44 ∷ []) ≡ no_fields ∷ no_fields ∷ no_fields ∷ no_fields ∷ []
other_first_bytes = refl

-- TCP from port 1 of 2001:db8::1 to port 22 of fe80::102, with codepoint 46, both congestion bits
-- and a flow label
abbrev pub segment : List ℕ
segment =
    (0x6B ∷ 0xB5 ∷ 0x12 ∷ 0x34 ∷ 0x00 ∷ 0x14 ∷ 0x06 ∷ 0x40 ∷ []) ++ (0x20 ∷ 0x01 ∷ 0x0D ∷ 0xB8 ∷ replicate 11 0 ++ 1 ∷ [])
    ++ (0xFE ∷ 0x80 ∷ replicate 12 0 ++ 1 ∷ 2 ∷ []) ++ (0 ∷ 1 ∷ 0 ∷ 22 ∷ [])

abbrev pub segment_fields : Fields
segment_fields =
    record { vlan = None; version = Some 6; dscp = Some 46; proto = Some 6; source = Some 42540766411282592856903984951653826561; target = Some 338288524927261089654018896841347694850; sport = Some 1; dport = Some 22 }

-- the same fields without the ports
abbrev pub cut_segment_fields : Fields
cut_segment_fields = record segment_fields { sport = None; dport = None }

pub version_6 : fields_of 101 segment ≡ segment_fields
version_6 = refl

-- an IPv6 header has 40 bytes, and the ports 4
pub captured_parts_of_version_6 : map (λ n. fields_of 101 (take n segment)) (39 ∷ 40 ∷ 43 ∷ []) ≡ no_fields ∷ cut_segment_fields ∷ cut_segment_fields ∷ []
captured_parts_of_version_6 = refl

-- after another next header, such as a fragment's, no ports are read
pub other_next_header : fields_of 101 (take 6 segment ++ 44 ∷ drop 7 segment) ≡ record cut_segment_fields { proto = Some 44 }
other_next_header = refl

pub version_6_in_a_frame : fields_of 1 (addresses ++ (0x86 ∷ 0xDD ∷ []) ++ segment) ≡ segment_fields
version_6_in_a_frame = refl

-- a frame whose type is IPv6 but whose payload is IPv4 has no fields, and vice versa
pub other_version : fields_of 1 (addresses ++ (0x86 ∷ 0xDD ∷ []) ++ datagram ++ replicate 20 0) ≡ no_fields
other_version = refl

pub other_version_4 : fields_of 1 (addresses ++ ipv4_type ++ segment) ≡ no_fields
other_version_4 = refl

-- each condition bounds its own field
pub each_field : map (λ (f : Field). value_of f (record segment_fields { vlan = Some 7; proto = Some 17 }) 60) (vlan ∷ dscp ∷ proto ∷ sport ∷ dport ∷ len ∷ []) ≡ Some 7 ∷ Some 46 ∷ Some 17 ∷ Some 1 ∷ Some 22 ∷ Some 60 ∷ []
each_field = refl

-- both ends belong to the range
pub ends_of_a_range : map (λ n. meets no_fields n (in_range len 10 20)) (9 ∷ 10 ∷ 20 ∷ 21 ∷ []) ≡ false ∷ true ∷ true ∷ false ∷ []
ends_of_a_range = refl

-- a packet is IPv4, IPv6 or neither
pub versions_met : map (λ (fields : Fields). meets fields 60 ipv4) (datagram_fields ∷ segment_fields ∷ no_fields ∷ []) ≡ true ∷ false ∷ false ∷ []
versions_met = refl

pub versions_6_met : map (λ (fields : Fields). meets fields 60 ipv6) (datagram_fields ∷ segment_fields ∷ no_fields ∷ []) ≡ false ∷ true ∷ false ∷ []
versions_6_met = refl

-- 10.0.0.1 is in 10.0.0.0/8 and not in 10.9.0.0/16
pub in_prefix : meets datagram_fields 28 (source 167772160 8) ≡ true
in_prefix = refl

pub beside_prefix : meets datagram_fields 28 (source 168361984 16) ≡ false
beside_prefix = refl

-- source 10.0.0.1 matches 10.0.0.0/31 and 10.0.0.1/32, but not 10.0.0.0/32 or 10.0.0.2/32
pub longest_prefixes : map (λ (c : Condition). meets datagram_fields 28 c) (source 167772160 31 ∷ source 167772161 32 ∷ source 167772160 32 ∷ source 167772162 32 ∷ []) ≡ true ∷ true ∷ false ∷ false ∷ []
longest_prefixes = refl

-- destination 10.0.0.2 matches 10.0.0.2/31 and 10.0.0.2/32, but not 10.0.0.1/32
pub longest_prefixes_of_targets : map (λ (c : Condition). meets datagram_fields 28 c) (target 167772163 31 ∷ target 167772162 32 ∷ target 167772161 32 ∷ []) ≡ true ∷ true ∷ false ∷ []
longest_prefixes_of_targets = refl

-- any two IPv4 addresses agree in zero leading bits
pub empty_prefix : map (λ (c : Condition). meets datagram_fields 28 c) (source 0 0 ∷ target 0 0 ∷ []) ≡ true ∷ true ∷ []
empty_prefix = refl

-- IPv6 addresses match no prefix, not even an empty one
pub ipv6_has_no_prefix : map (λ (c : Condition). meets (record segment_fields { source = Some 1; target = Some 2 }) 60 c) (source 0 0 ∷ target 0 0 ∷ []) ≡ false ∷ false ∷ []
ipv6_has_no_prefix = refl

pub absent_meets_nothing : meets fragment_fields 28 (in_range dport 0 65535) ≡ false
absent_meets_nothing = refl

pub length_is_present : meets no_fields 28 (in_range len 28 28) ≡ true
length_is_present = refl

-- the lower of two classes that match, and the last if no other matches
abbrev pub classes : List (List Condition)
classes = (in_range proto 6 6 ∷ []) ∷ (in_range dport 53 53 ∷ ipv4 ∷ []) ∷ (in_range dport 0 99 ∷ []) ∷ [] ∷ []

pub least_class : class_of classes datagram_fields 28 ≡ Some 1
least_class = refl

pub last_class : class_of classes fragment_fields 28 ≡ Some 3
last_class = refl

pub no_class : class_of (take 1 classes) datagram_fields 28 ≡ None
no_class = refl
