-- Captured bytes and their extra header fields.
use Rattle.std.specs.Prelude.{◌≡◌, ℕ, Option, Some, None, List, [], ◌∷◌, ◌++◌, map, take, drop, replicate, refl}
use Rattle.packet_defs.specs.Extra.{no_extra, extra_of}
use Rattle.packet_defs.specs.Rows.{addresses, tag_7, ipv4_type, datagram, fragment, with_protocol, segment}
use Rattle.packet_defs.specs.LinkRows.{ipv6_type}

-- the first 16 bytes of a TCP header from port 4096 to port 80 with the flags SYN and ECE (0x42)
abbrev pub tcp_header : List ℕ
tcp_header = (0x10 ∷ 0x00 ∷ 0x00 ∷ 0x50 ∷ replicate 8 0) ++ (0x50 ∷ 0x42 ∷ 0x00 ∷ 0x00 ∷ [])

-- it after an IPv4 header, whose flags and fragment offset are the two arguments
abbrev pub tcp_fragment : ℕ → ℕ → List ℕ
tcp_fragment high low = take 9 (fragment high low) ++ 6 ∷ (take 10 (drop 10 (fragment high low)) ++ tcp_header)

abbrev pub tcp_datagram : List ℕ
tcp_datagram = tcp_fragment 0 0

-- the flags are byte 14, and must be captured
pub tcp_flags : map (λ n. (extra_of 101 (take n tcp_datagram)).flags) (33 ∷ 34 ∷ 36 ∷ []) ≡ None ∷ Some 0x42 ∷ Some 0x42 ∷ []
tcp_flags = refl

-- a first fragment has them, a later one doesn't
pub fragments_and_flags : map (λ high. (extra_of 101 (tcp_fragment high 0)).flags) (0x20 ∷ 0x01 ∷ []) ≡ Some 0x42 ∷ None ∷ []
fragments_and_flags = refl

-- UDP has none
pub udp_has_no_flags : (extra_of 101 (datagram ++ replicate 20 0)).flags ≡ None
udp_has_no_flags = refl

-- after IPv4 options, and after an IPv6 header
pub flags_after_options : (extra_of 228 ((0x46 ∷ take 19 (drop 1 tcp_datagram)) ++ replicate 4 1 ++ tcp_header)).flags ≡ Some 0x42
flags_after_options = refl

pub flags_after_ipv6 : (extra_of 229 (take 40 segment ++ tcp_header)).flags ≡ Some 0x42
flags_after_ipv6 = refl

-- the type of a frame, and none if it isn't captured
pub types : map (λ n. (extra_of 1 (take n (addresses ++ 0x08 ∷ 0x06 ∷ []))).ethertype) (13 ∷ 14 ∷ []) ≡ None ∷ Some 0x0806 ∷ []
types = refl

-- the type of a raw packet is that of its version
pub raw_types : map (λ bytes. (extra_of 101 bytes).ethertype) (datagram ∷ segment ∷ [] ∷ []) ≡ Some 0x0800 ∷ Some 0x86DD ∷ None ∷ []
raw_types = refl

-- a tagged frame with priority 5: the type after the tag, and the flags of its payload
pub tagged_extra : extra_of 1 (addresses ++ (0x81 ∷ 0x00 ∷ 0xA0 ∷ 0x07 ∷ []) ++ ipv4_type ++ tcp_datagram) ≡ record { pcp = Some 5; ethertype = Some 0x0800; flags = Some 0x42 }
tagged_extra = refl

-- the first of two tags counts
pub two_priorities : (extra_of 1 (addresses ++ (0x88 ∷ 0xA8 ∷ 0xE0 ∷ 0x07 ∷ 0x81 ∷ 0x00 ∷ 0x20 ∷ 0x09 ∷ []) ++ ipv6_type ++ segment)).pcp ≡ Some 7
two_priorities = refl

-- without a tag there is no priority
pub no_priority : map (λ link. (extra_of link (addresses ++ ipv4_type ++ datagram)).pcp) (1 ∷ 101 ∷ 113 ∷ []) ≡ None ∷ None ∷ None ∷ []
no_priority = refl

-- a cooked packet with a tag of priority 3, and its type, which is the protocol without a tag
pub cooked_extras : map (extra_of 113) ((replicate 14 0 ++ (0x81 ∷ 0x00 ∷ 0x60 ∷ 0x07 ∷ []) ++ ipv4_type ++ tcp_datagram) ∷ (replicate 14 0 ++ ipv4_type ++ tcp_datagram) ∷ []) ≡ record { pcp = Some 3; ethertype = Some 0x0800; flags = Some 0x42 } ∷ record { pcp = None; ethertype = Some 0x0800; flags = Some 0x42 } ∷ []
cooked_extras = refl

pub cooked_2_extra : extra_of 276 (ipv4_type ++ replicate 18 0 ++ tcp_datagram) ≡ record { pcp = None; ethertype = Some 0x0800; flags = Some 0x42 }
cooked_2_extra = refl

-- a loopback packet has flags and no type
pub loopback_extras : map (λ link. extra_of link ((0 ∷ 0 ∷ 0 ∷ 2 ∷ []) ++ tcp_datagram)) (0 ∷ 108 ∷ []) ≡ replicate 2 (record no_extra { flags = Some 0x42 })
loopback_extras = refl

-- other link types have none
pub unknown_extra : map (λ link. extra_of link tcp_datagram) (2 ∷ 147 ∷ []) ≡ replicate 2 no_extra
unknown_extra = refl
