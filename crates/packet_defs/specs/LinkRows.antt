-- Captured bytes and their fields for the link types that version 3 adds.
use Rattle.std.specs.Prelude.{◌≡◌, ℕ, Some, List, [], ◌∷◌, ◌++◌, map, take, replicate, refl}
use Rattle.packet_defs.specs.Internet.{no_fields}
use Rattle.packet_defs.specs.Headers.{fields_of, fields_in}
use Rattle.packet_defs.specs.Rows.{ipv4_type, datagram, datagram_fields, fragment_fields, segment, segment_fields}

abbrev pub ipv6_type : List ℕ
ipv6_type = 0x86 ∷ 0xDD ∷ []

-- the IPv4 datagram with as many captured bytes as an IPv6 header has
abbrev pub long_datagram : List ℕ
long_datagram = datagram ++ replicate 20 0

-- versions 1 and 2 read Ethernet and raw IP alone, and version 3 reads them in the same way
pub earlier_versions : (link : ℕ) (bytes : List ℕ) → map (λ version. fields_in version link bytes) (1 ∷ 2 ∷ []) ≡ replicate 2 (fields_of link bytes)
earlier_versions link bytes = refl

pub ethernet_in_version_3 : (bytes : List ℕ) → fields_in 3 1 bytes ≡ fields_of 1 bytes
ethernet_in_version_3 bytes = refl

pub raw_in_version_3 : (bytes : List ℕ) → fields_in 3 101 bytes ≡ fields_of 101 bytes
raw_in_version_3 bytes = refl

pub from_version_3 : map (λ version. fields_in version 228 datagram) (1 ∷ 2 ∷ 3 ∷ []) ≡ no_fields ∷ no_fields ∷ datagram_fields ∷ []
from_version_3 = refl

pub unknown_links : map (λ link. fields_in 3 link datagram) (2 ∷ 13 ∷ 15 ∷ 107 ∷ 147 ∷ 227 ∷ 230 ∷ 277 ∷ []) ≡ replicate 8 no_fields
unknown_links = refl

-- raw IP of either version, of version 4 and of version 6
pub raw_ipv4 : map (λ link. fields_in 3 link long_datagram) (12 ∷ 14 ∷ 228 ∷ 229 ∷ []) ≡ datagram_fields ∷ datagram_fields ∷ datagram_fields ∷ no_fields ∷ []
raw_ipv4 = refl

pub raw_ipv6 : map (λ link. fields_in 3 link segment) (12 ∷ 14 ∷ 228 ∷ 229 ∷ []) ≡ segment_fields ∷ segment_fields ∷ no_fields ∷ segment_fields ∷ []
raw_ipv6 = refl

-- a family word in network byte order, and in the other
abbrev pub big_word : ℕ → List ℕ
big_word family = 0 ∷ 0 ∷ 0 ∷ family ∷ []

abbrev pub little_word : ℕ → List ℕ
little_word family = family ∷ 0 ∷ 0 ∷ 0 ∷ []

-- LINKTYPE_NULL has the family in either order, and LINKTYPE_LOOP in network byte order
pub ipv4_family_in_either_order : map (λ word. fields_in 3 0 (word ++ datagram)) (big_word 2 ∷ little_word 2 ∷ []) ≡ datagram_fields ∷ datagram_fields ∷ []
ipv4_family_in_either_order = refl

pub ipv6_families_in_big_order : map (λ family. fields_in 3 0 (big_word family ++ segment)) (24 ∷ 28 ∷ 30 ∷ []) ≡ replicate 3 segment_fields
ipv6_families_in_big_order = refl

pub ipv6_families_in_little_order : map (λ family. fields_in 3 0 (little_word family ++ segment)) (24 ∷ 28 ∷ 30 ∷ []) ≡ replicate 3 segment_fields
ipv6_families_in_little_order = refl

pub loop_family : map (λ word. fields_in 3 108 (word ++ datagram)) (big_word 2 ∷ little_word 2 ∷ []) ≡ datagram_fields ∷ no_fields ∷ []
loop_family = refl

pub loop_ipv6_families : map (λ family. fields_in 3 108 (big_word family ++ segment)) (24 ∷ 28 ∷ 30 ∷ []) ≡ replicate 3 segment_fields
loop_ipv6_families = refl

-- a packet of another family, or of the other version than its family's, has no fields
pub other_families : map (λ family. fields_in 3 0 (big_word family ++ long_datagram)) (0 ∷ 1 ∷ 10 ∷ 24 ∷ 28 ∷ 30 ∷ []) ≡ replicate 6 no_fields
other_families = refl

pub other_families_of_version_6 : map (λ family. fields_in 3 108 (big_word family ++ segment)) (2 ∷ 10 ∷ 23 ∷ 29 ∷ []) ≡ replicate 4 no_fields
other_families_of_version_6 = refl

-- all four bytes of the word are the family
pub wide_families :
    map (λ word. fields_in 3 0 (word ++ datagram)) ((0 ∷ 2 ∷ 0 ∷ 0 ∷ []) ∷ (0 ∷ 0 ∷ 2 ∷ 0 ∷ []) ∷ (2 ∷ 0 ∷ 0 ∷ 2 ∷ []) ∷ (1 ∷ 0 ∷ 0 ∷ 2 ∷ []) ∷ []) ≡ replicate 4 no_fields
wide_families = refl

pub captured_parts_of_a_loopback_packet :
    map (λ n. fields_in 3 0 (take n (little_word 2 ++ datagram))) (0 ∷ 1 ∷ 4 ∷ 23 ∷ 24 ∷ 28 ∷ []) ≡ replicate 4 no_fields ++ fragment_fields ∷ datagram_fields ∷ []
captured_parts_of_a_loopback_packet = refl

-- a packet after a cooked header of version 1 and of version 2: the type, and what follows the header
abbrev pub cooked : List ℕ → List ℕ → List ℕ
cooked type rest = replicate 14 0 ++ type ++ rest

abbrev pub cooked_2 : List ℕ → List ℕ → List ℕ
cooked_2 type rest = type ++ replicate 18 0 ++ rest

pub cooked_ipv4 : fields_in 3 113 (cooked ipv4_type datagram) ∷ fields_in 3 276 (cooked_2 ipv4_type datagram) ∷ [] ≡ datagram_fields ∷ datagram_fields ∷ []
cooked_ipv4 = refl

pub cooked_ipv6 : fields_in 3 113 (cooked ipv6_type segment) ∷ fields_in 3 276 (cooked_2 ipv6_type segment) ∷ [] ≡ segment_fields ∷ segment_fields ∷ []
cooked_ipv6 = refl

-- a header of one version isn't read as one of the other
pub other_cooked_version : fields_in 3 276 (cooked ipv4_type datagram) ∷ fields_in 3 113 (cooked_2 ipv4_type datagram) ∷ [] ≡ no_fields ∷ no_fields ∷ []
other_cooked_version = refl

-- a packet of another type, or of the other version than its type's, has no fields
pub cooked_other_types : map (λ type. fields_in 3 113 (cooked type long_datagram)) ((0x08 ∷ 0x06 ∷ []) ∷ ipv6_type ∷ []) ≡ no_fields ∷ no_fields ∷ []
cooked_other_types = refl

pub cooked_2_other_types : map (λ type. fields_in 3 276 (cooked_2 type long_datagram)) ((0x08 ∷ 0x06 ∷ []) ∷ ipv6_type ∷ []) ≡ no_fields ∷ no_fields ∷ []
cooked_2_other_types = refl

-- the types of tags, the ids of two tags, and a type after each
abbrev pub customer_tag : List ℕ
customer_tag = 0x81 ∷ 0x00 ∷ []

abbrev pub service_tag : List ℕ
service_tag = 0x88 ∷ 0xA8 ∷ []

abbrev pub id_7 : List ℕ
id_7 = 0x20 ∷ 0x07 ∷ []

abbrev pub id_9 : List ℕ
id_9 = 0x00 ∷ 0x09 ∷ []

pub cooked_tags : map (λ tag. fields_in 3 113 (cooked tag (id_7 ++ ipv4_type ++ datagram))) (customer_tag ∷ service_tag ∷ []) ≡ replicate 2 (record datagram_fields { vlan = Some 7 })
cooked_tags = refl

pub cooked_2_tags : map (λ tag. fields_in 3 276 (cooked_2 tag (id_7 ++ ipv4_type ++ datagram))) (customer_tag ∷ service_tag ∷ []) ≡ replicate 2 (record datagram_fields { vlan = Some 7 })
cooked_2_tags = refl

-- the first of two tags counts, and a third tag isn't parsed
pub cooked_two_tags : fields_in 3 113 (cooked service_tag (id_7 ++ customer_tag ++ id_9 ++ ipv6_type ++ segment)) ≡ record segment_fields { vlan = Some 7 }
cooked_two_tags = refl

pub cooked_2_two_tags : fields_in 3 276 (cooked_2 service_tag (id_7 ++ customer_tag ++ id_9 ++ ipv6_type ++ segment)) ≡ record segment_fields { vlan = Some 7 }
cooked_2_two_tags = refl

pub cooked_three_tags : fields_in 3 113 (cooked customer_tag (id_7 ++ customer_tag ++ id_9 ++ customer_tag ++ id_9 ++ ipv4_type ++ datagram)) ≡ record no_fields { vlan = Some 7 }
cooked_three_tags = refl

pub cooked_2_three_tags : fields_in 3 276 (cooked_2 customer_tag (id_7 ++ customer_tag ++ id_9 ++ customer_tag ++ id_9 ++ ipv4_type ++ datagram)) ≡ record no_fields { vlan = Some 7 }
cooked_2_three_tags = refl

-- a cut header gives no fields, and a tag needs the type after it
pub captured_parts_of_a_cooked_packet :
    map (λ n. fields_in 3 113 (take n (cooked customer_tag (id_7 ++ ipv4_type ++ datagram)))) (0 ∷ 15 ∷ 19 ∷ 20 ∷ 39 ∷ 40 ∷ [])
    ≡ replicate 3 no_fields ++ replicate 2 (record no_fields { vlan = Some 7 }) ++ record fragment_fields { vlan = Some 7 } ∷ []
captured_parts_of_a_cooked_packet = refl

pub captured_parts_of_a_cooked_2_packet :
    map (λ n. fields_in 3 276 (take n (cooked_2 customer_tag (id_7 ++ ipv4_type ++ datagram)))) (0 ∷ 1 ∷ 23 ∷ 24 ∷ 43 ∷ 44 ∷ [])
    ≡ replicate 3 no_fields ++ replicate 2 (record no_fields { vlan = Some 7 }) ++ record fragment_fields { vlan = Some 7 } ∷ []
captured_parts_of_a_cooked_2_packet = refl
