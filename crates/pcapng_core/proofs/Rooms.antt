-- The room for captured bytes in a block, from its front.
use Rattle.pcapng_core.proofs.Prelude.{◌≡◌, ℕ, List, sym, ◌∙◌, ap, arith, length, ◌+◌, Option, Some, subst, ◌<◌, ◌≤◌, None, refl, Bool, eqb, true, ◌&&◌, leb, slice_get, ◌%◌, and_parts, cond_both, eqb-true, leb-true, long_at, short_at, most_captured, Carried, most_interfaces, ng_major, BlockKind, least_total, most_total, fits_kind, Interface, HasRoom, front_len, body_said, captured_in, enhanced_body, packet_body, simple_body, kind_said, Body, Packet, Kind, Start}
use Rattle.pcapng_core.specs.declared.start.Kind.TheVariants as kind

-- a total length that a block can have is at least the least one
pub fits-least : (kind : BlockKind) (total : ℕ) → fits_kind kind total ≡ true → least_total kind ≤ total
fits-least kind total h =
    let front = (and_parts (eqb (total % 4) 0 && leb (least_total kind) total) (leb total most_total) h).0 in
    leb-true (least_total kind) total (and_parts (eqb (total % 4) 0) (leb (least_total kind) total) front).1

-- and it is a multiple of four
fits-fours : (kind : BlockKind) (total : ℕ) → fits_kind kind total ≡ true → total % 4 ≡ 0
fits-fours kind total h =
    let front = (and_parts (eqb (total % 4) 0 && leb (least_total kind) total) (leb total most_total) h).0 in
    eqb-true (total % 4) 0 (and_parts (eqb (total % 4) 0) (leb (least_total kind) total) front).0

-- and a front is no longer than the least block of its kind
pub front_len-least : (k : Kind) → front_len k ≤ least_total (kind_said k)
front_len-least kind.Section = omega arith
front_len-least kind.Interface = omega arith
front_len-least kind.Enhanced = omega arith
front_len-least kind.Simple = omega arith
front_len-least kind.Other = omega arith

-- the captured bytes of a packet from this position on fit in the block
packet_body-room : (p : Packet) (at total number : ℕ) → at + 4 ≤ total → at + captured_in (packet_body p at total number) + 4 ≤ total
packet_body-room p at total number least =
    cond_both (leb p.captured most_captured && leb (at + p.captured + 4) total) _ _ (λ (b : Body). at + captured_in b + 4 ≤ total)
    (λ e. leb-true (at + p.captured + 4) total (and_parts (leb p.captured most_captured) (leb (at + p.captured + 4) total) e).1)
    (λ e. omega (arith, least))

enhanced-room : (c : Carried) (big : Bool) (total : ℕ) (front : List ℕ) (i : Option Interface) → 32 ≤ total → 28 + captured_in (enhanced_body c big total front i) + 4 ≤ total
enhanced-room c big total front None least = omega (arith, least)
enhanced-room c big total front (Some i) least = packet_body-room _ 28 total (c.blocks + 1) (omega (arith, least))

simple-room : (c : Carried) (big : Bool) (total : ℕ) (front : List ℕ) (i : Option Interface) → 16 ≤ total → 12 + captured_in (simple_body c big total front i) + 4 ≤ total
simple-room c big total front None least = omega (arith, least)
simple-room c big total front (Some i) least = packet_body-room _ 12 total (c.blocks + 1) (omega (arith, least))

-- a section header has no captured bytes
section-none : (c : Carried) (big : Bool) (total : ℕ) (front : List ℕ) → captured_in (body_said c big total front kind.Section) ≡ 0
section-none c big total front = cond_both (eqb (short_at big 12 front) ng_major) _ _ (λ (b : Body). captured_in b ≡ 0) (λ e. refl) (λ e. refl)

-- an interface has no captured bytes
interface-none : (c : Carried) (big : Bool) (total : ℕ) (front : List ℕ) → captured_in (body_said c big total front kind.Interface) ≡ 0
interface-none c big total front = cond_both (eqb (length c.described) most_interfaces) _ _ (λ (b : Body). captured_in b ≡ 0) (λ e. refl) (λ e. refl)

fours : (total : ℕ) → total % 4 ≡ 0 → 12 < total → 16 ≤ total
fours total h more = omega (arith, h, more)

kind-room : (k : Kind) (c : Carried) (big : Bool) (total : ℕ) (front : List ℕ) → least_total (kind_said k) ≤ total → total % 4 ≡ 0
    → HasRoom (record { big = big; kind = k; total = total }) (front_len k) (captured_in (body_said c big total front k))
kind-room kind.Section c big total front least four =
    let none = section-none c big total front in
    record { least = omega (arith, least); short = λ e. absurd (omega (arith, least, e)); room = λ h. omega (arith, least, none); options = λ e. absurd (cc) }
kind-room kind.Interface c big total front least four =
    let none = interface-none c big total front in
    record { least = omega (arith, least); short = λ e. absurd (omega (arith, least, e)); room = λ h. omega (arith, least, none); options = λ e. (refl, none, least) }
kind-room kind.Enhanced c big total front least four = record {
  least = omega (arith, least);
  short = λ e. absurd (omega (arith, least, e));
  room = λ h. enhanced-room c big total front (slice_get c.described (long_at big 8 front)) least;
  options = λ e. absurd (cc);
}
kind-room kind.Simple c big total front least four = record {
  least = omega (arith, least);
  short = λ e. absurd (omega (arith, least, e));
  room = λ h. simple-room c big total front (slice_get c.described 0) least;
  options = λ e. absurd (cc);
}
kind-room kind.Other c big total front least four = record {
  least = least;
  short = λ e. (refl, refl);
  room = λ h. omega (arith, fours total four h);
  options = λ e. absurd (cc);
}

-- after the front of a block there is room for the captured bytes that it announces
pub body-room : (c : Carried) (s : Start) (b : Body) (front : List ℕ) (n captured : ℕ) → fits_kind (kind_said s.kind) s.total ≡ true
    → n ≡ front_len s.kind → b ≡ body_said c s.big s.total front s.kind → captured ≡ captured_in b → HasRoom s n captured
body-room c s b front n captured fits size said counted =
    let room : HasRoom s (front_len s.kind) (captured_in (body_said c s.big s.total front s.kind)) =
    kind-room s.kind c s.big s.total front (fits-least (kind_said s.kind) s.total fits) (fits-fours (kind_said s.kind) s.total fits) in
    subst (λ m. HasRoom s m captured) (sym size) (subst (λ m. HasRoom s (front_len s.kind) m) (sym (counted ∙ ap captured_in said)) room)
