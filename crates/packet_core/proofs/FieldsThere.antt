-- The fields of captured bytes whose headers are known.
use Rattle.packet_core.proofs.Prelude.{◌∙◌, sym, ap, arith, take, drop, get_or, List, ℕ, ◌≡◌, refl, false, true, ◌+◌, ◌-◌, ◌/◌, ◌%◌, ◌&&◌, length, Bool, if◌then◌else◌, leb, eqb, inl, inr, Option, Some, None, take_rest, ipv4_fields, ipv6_fields, is_ipv4, Fields}
use Rattle.packet_defs.specs.Ethernet.{tag_at, type_place, type_at, carried_fields, payload_fields, ethernet_fields}
use Rattle.packet_defs.specs.Headers.{raw_fields, fields_of, headed_fields, fields_known, fields_in}
use Rattle.std.specs.Prelude.{◌||◌, ◌⊎◌}
use Rattle.packet_defs.specs.Bytes.{number_at}
use Rattle.byteorder.specs.Endian.{big_number}
use Rattle.packet_defs.specs.Internet.{behind_ipv4, has_ipv4_ports, has_ipv6_ports, port_at, traffic_class, version_at}
use Rattle.std.proofs.lemmas.List.{get_or-drop}
use Rattle.std.proofs.lemmas.Bool.{ne_eqb, le-leb, leb-true, and_parts}

carried-is : (bytes : List ℕ) (t : Option ℕ) (place : ℕ) (carried : Fields) → t ≡ type_at place bytes → place ≡ type_place bytes → carried ≡ carried_fields t (place + 2) bytes
    → carried ≡ payload_fields (type_place bytes) bytes
carried-is bytes t place carried type there is = is ∙ ap (λ o. carried_fields o (place + 2) bytes) type ∙ ap (λ p. payload_fields p bytes) there

-- the fields of a frame, by its payload
pub frame-is : (bytes : List ℕ) (t vlan : Option ℕ) (place : ℕ) (carried : Fields) → vlan ≡ tag_at 12 bytes → t ≡ type_at place bytes → place ≡ type_place bytes → carried ≡ carried_fields t (place + 2) bytes
    → record carried { vlan = vlan } ≡ ethernet_fields bytes
frame-is bytes t vlan place carried tag type there is =
    ap (λ (f : Fields). record f { vlan = vlan }) (carried-is bytes t place carried type there is)
    ∙ ap (λ (v : Option ℕ). record (payload_fields (type_place bytes) bytes) { vlan = v }) tag

-- the same, if the payload is IPv4
pub frame-ipv4 : (bytes : List ℕ) (vlan : Option ℕ) (place : ℕ) (fields : Fields) → vlan ≡ tag_at 12 bytes → place ≡ type_place bytes → number_at 2 place bytes ≡ 2048 → is_ipv4 (place + 2) bytes ≡ true
    → fields ≡ ipv4_fields (place + 2) bytes → record fields { vlan = vlan } ≡ ethernet_fields bytes
frame-ipv4 bytes vlan place fields tag there type is same =
    let first = (and_parts (leb (place + 2 + 20) (length bytes) && eqb (version_at (place + 2) bytes) 4) (leb 5 (number_at 1 (place + 2) bytes % 16)) is).0 in
    let whole = (and_parts (leb (place + 2 + 20) (length bytes)) (eqb (version_at (place + 2) bytes) 4) first).0 in
    let inside = le-leb (place + 2) (length bytes) (omega (arith, leb-true (place + 2 + 20) (length bytes) whole)) in
    frame-is bytes (type_at place bytes) vlan place fields tag refl there (same ∙ rw (inside, type, is) refl)

-- the fields with the link types that all versions know
by_version : (b : Bool) (f : Fields) → (if b then f else f) ≡ f
by_version true f = refl
by_version false f = refl

pub frame-link : (version link : ℕ) (bytes : List ℕ) → link ≡ 1 → fields_in version link bytes ≡ ethernet_fields bytes
frame-link version link bytes e = rw (e) (by_version (leb 3 version) (ethernet_fields bytes))

pub raw-link : (version link : ℕ) (bytes : List ℕ) → link ≡ 101 → fields_in version link bytes ≡ raw_fields bytes
raw-link version link bytes e = rw (e) (by_version (leb 3 version) (raw_fields bytes))

pub raw-ipv4 : (version link : ℕ) (bytes : List ℕ) → link ≡ 101 → is_ipv4 0 bytes ≡ true → fields_in version link bytes ≡ ipv4_fields 0 bytes
raw-ipv4 version link bytes raw is = raw-link version link bytes raw ∙ rw (is) refl

-- the fields with other link types than those that are tested
pub headed-other : (link : ℕ) (bytes : List ℕ) → (link ≡ 0 → ⊥) → (link ≡ 108 → ⊥) → (link ≡ 113 → ⊥) → (link ≡ 276 → ⊥) → headed_fields link bytes ≡ fields_of link bytes
headed-other link bytes null loop cooked cooked_2 = rw (ne_eqb link 0 null, ne_eqb link 108 loop, ne_eqb link 113 cooked, ne_eqb link 276 cooked_2) refl

pub known-other : (link : ℕ) (bytes : List ℕ) → (link ≡ 12 → ⊥) → (link ≡ 14 → ⊥) → (link ≡ 228 → ⊥) → (link ≡ 229 → ⊥) → fields_known link bytes ≡ headed_fields link bytes
known-other link bytes raw_12 raw_14 four six = rw (ne_eqb link 12 raw_12, ne_eqb link 14 raw_14, ne_eqb link 228 four, ne_eqb link 229 six) refl

-- a byte, and a number in the bytes from a position on
pub byte-at : (at : ℕ) (bytes : List ℕ) → get_or bytes at 0 ≡ number_at 1 at bytes
byte-at at bytes =
    let same : get_or (drop at bytes) 0 0 ≡ get_or bytes at 0 = get_or-drop at bytes 0 0 ∙ ap (λ i. get_or bytes i 0) (omega arith) in
    omega (arith, same)

pub number-from : (n at : ℕ) (bytes : List ℕ) → big_number n (take (length bytes - at) (drop at bytes)) ≡ number_at n at bytes
number-from n at bytes = ap (big_number n) (take_rest bytes at)

-- ports that are there, and none
pub port-there : (there : Bool) (at n : ℕ) (bytes : List ℕ) → there ≡ true → n ≡ number_at 2 at bytes → Some n ≡ port_at there at bytes
port-there there at n bytes is same = rw (is, same) refl

pub port-none : (there : Bool) (at : ℕ) (bytes : List ℕ) → there ≡ false → None ≡ port_at there at bytes
port-none there at bytes is = rw (is) refl

-- the fields of an IP header, from its numbers
pub ipv4-is : (at : ℕ) (bytes : List ℕ) (s t : ℕ) (from to : Option ℕ) → s ≡ number_at 4 (at + 12) bytes → t ≡ number_at 4 (at + 16) bytes
    → from ≡ port_at (has_ipv4_ports at bytes) (behind_ipv4 at bytes) bytes → to ≡ port_at (has_ipv4_ports at bytes) (behind_ipv4 at bytes + 2) bytes
    → record { vlan = None; version = Some 4; dscp = Some (get_or bytes (at + 1) 0 / 4); proto = Some (get_or bytes (at + 9) 0); source = Some s; target = Some t; sport = from; dport = to } ≡ ipv4_fields at bytes
ipv4-is at bytes s t from to source target sport dport = rw (byte-at (at + 1) bytes, byte-at (at + 9) bytes, source, target, sport, dport) refl

pub ipv6-is : (at : ℕ) (bytes : List ℕ) (c s t : ℕ) (from to : Option ℕ) → c ≡ traffic_class at bytes → s ≡ number_at 16 (at + 8) bytes → t ≡ number_at 16 (at + 24) bytes
    → from ≡ port_at (has_ipv6_ports at bytes) (at + 40) bytes → to ≡ port_at (has_ipv6_ports at bytes) (at + 42) bytes
    → record { vlan = None; version = Some 6; dscp = Some (c / 4); proto = Some (get_or bytes (at + 6) 0); source = Some s; target = Some t; sport = from; dport = to } ≡ ipv6_fields at bytes
ipv6-is at bytes c s t from to class source target sport dport = rw (class, byte-at (at + 6) bytes, source, target, sport, dport) refl

-- a protocol with ports, and one without
pub ported : (proto n : ℕ) → proto ≡ n → ((proto ≡ 6) ⊎ (proto ≡ 17)) → ((eqb n 6) || (eqb n 17)) ≡ true
ported proto n same (inl e) = rw (sym same, e) refl
ported proto n same (inr e) = rw (sym same, e) refl

pub unported : (proto n : ℕ) → proto ≡ n → (proto ≡ 6 → ⊥) → (proto ≡ 17 → ⊥) → ((eqb n 6) || (eqb n 17)) ≡ false
unported proto n same tcp udp = rw (sym same, ne_eqb proto 6 tcp, ne_eqb proto 17 udp) refl

pub has-ports : (first ported captured : Bool) → first ≡ true → ported ≡ true → captured ≡ true → (first && (ported && captured)) ≡ true
has-ports first ported captured f p c = rw (f, p, c) refl
