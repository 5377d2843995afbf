-- Header fields, and the tests that they pass.
use Rattle.std.specs.Prelude.{◌≡◌, ℕ, Bool, true, false, Some, None, List, [], ◌∷◌, map, refl}
use Rattle.packet_defs.specs.declared.extra.Header.{Header}
use Rattle.packet_defs.specs.Condition.{proto, dport, vlan}
use Rattle.packet_defs.specs.Extra.{no_extra}
use Rattle.packet_defs.specs.Internet.{no_fields}
use Rattle.packet_defs.specs.Rows.{datagram_fields, fragment_fields, segment_fields}
use Rattle.packet_defs.specs.Test.{Range, Probe, among, named, pcp, ethertype, source, target, flags, ipv4, ipv6, v4, v6, Test, passes, belongs, class_among}

-- the datagram with priority 5, its type, and the flags SYN and ACK
abbrev pub header : Header
header = record { fields = datagram_fields; extra = record { pcp = Some 5; ethertype = Some 0x0800; flags = Some 0x12 } }

abbrev pub no_header : Header
no_header = record { fields = no_fields; extra = no_extra }

abbrev pub segment_header : Header
segment_header = record { fields = segment_fields; extra = no_extra }

abbrev pub range : ℕ → ℕ → Range
range low high = record { low = low; high = high }

abbrev pub is : Probe → Test
is p = record { negated = false; probe = p }

abbrev pub is_not : Probe → Test
is_not p = record { negated = true; probe = p }

-- `dport {53, 80..90}` on ports 52, 53, 54, 79, 80, 90 and 91
pub sets : map (λ n. passes (record header { fields = record datagram_fields { dport = Some n } }) 60 (is (among (named dport) (range 53 53 ∷ range 80 90 ∷ [])))) (52 ∷ 53 ∷ 54 ∷ 79 ∷ 80 ∷ 90 ∷ 91 ∷ []) ≡ false ∷ true ∷ false ∷ false ∷ true ∷ true ∷ false ∷ []
sets = refl

-- an absent field is in no range, so it meets each negated test
pub absent_fields : map (λ (t : Test). passes no_header 60 t) (is (among (named dport) (range 0 65535 ∷ [])) ∷ is_not (among (named dport) (range 80 80 ∷ [])) ∷ is_not (flags 0 0) ∷ is_not ipv4 ∷ []) ≡ false ∷ true ∷ true ∷ true ∷ []
absent_fields = refl

-- `pcp 5` and `ethertype 2048`
pub extra_tests : map (λ (t : Test). passes header 60 t) (is (among pcp (range 5 5 ∷ [])) ∷ is (among pcp (range 0 4 ∷ [])) ∷ is (among ethertype (range 0x0800 0x0800 ∷ [])) ∷ is_not (among ethertype (range 0x86DD 0x86DD ∷ [])) ∷ []) ≡ true ∷ false ∷ true ∷ true ∷ []
extra_tests = refl

-- `tcpflags syn/syn`, `syn/syn+ack`, `syn+ack/syn+ack`, `none/rst` and `none/none` on SYN and ACK
pub flag_tests : map (λ (t : Test). passes header 60 t) (is (flags 0x02 0x02) ∷ is (flags 0x02 0x12) ∷ is (flags 0x12 0x12) ∷ is (flags 0 0x04) ∷ is (flags 0 0) ∷ []) ≡ true ∷ false ∷ true ∷ true ∷ true ∷ []
flag_tests = refl

-- the segment's source 2001:db8::1 is in 2001:db8::/32 and ::/0, and not in 2001:db9::/32
pub ipv6_prefixes : map (λ (t : Test). passes segment_header 60 t) (is (source (v6 42540766411282592856903984951653826560 32)) ∷ is (source (v6 0 0)) ∷ is (source (v6 42540766490510755371168322545197776896 32)) ∷ is (source (v6 42540766411282592856903984951653826561 128)) ∷ is (source (v6 42540766411282592856903984951653826560 128)) ∷ []) ≡ true ∷ true ∷ false ∷ true ∷ false ∷ []
ipv6_prefixes = refl

-- an address of the other version has no prefix
pub other_versions : map (λ (t : Test). passes header 60 t) (is (source (v6 0 0)) ∷ is_not (target (v6 0 0)) ∷ is (source (v4 167772160 8)) ∷ is ipv6 ∷ []) ≡ false ∷ true ∷ true ∷ false ∷ []
other_versions = refl

-- no alternatives, one whose tests all hold, one of which a test doesn't, and two
pub alternatives : map (belongs header 60) ([] ∷ ((is ipv4 ∷ is (among pcp (range 5 5 ∷ [])) ∷ []) ∷ []) ∷ ((is ipv4 ∷ is ipv6 ∷ []) ∷ []) ∷ ((is ipv6 ∷ []) ∷ (is ipv4 ∷ []) ∷ []) ∷ []) ≡ true ∷ true ∷ false ∷ true ∷ []
alternatives = refl

-- the first class to which a packet belongs
abbrev pub classes : List (List (List Test))
classes = ((is (among (named proto) (range 6 6 ∷ [])) ∷ []) ∷ (is ipv6 ∷ []) ∷ []) ∷ ((is_not (among (named vlan) (range 7 7 ∷ [])) ∷ is ipv4 ∷ []) ∷ []) ∷ [] ∷ []

pub first_classes : map (λ (h : Header). class_among classes h 60) (header ∷ segment_header ∷ no_header ∷ []) ≡ Some 1 ∷ Some 0 ∷ Some 2 ∷ []
first_classes = refl
