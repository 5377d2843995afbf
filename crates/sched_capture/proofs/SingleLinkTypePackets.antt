-- The packets of one link type, among those of a capture.
use Rattle.sched_capture.proofs.Prelude.{◌≡◌, List, Some, ℕ, None, Option, arith, sym, subst, ap, ◌∙◌, [], refl, ◌+◌, ◌∷◌, Bool, false, true, if◌then◌else◌, true≢false, ◌==◌, option_map, other_link, behind_packet, first_link, of_link, ReadError, Packet, Opens, Comes, IsAt, StopsAt, nothing_left, FileContents, holds, no_capture, Contents, FaultAt, CapturedPacket, Resolved, Refuses, IsNext, packet_told, one_link_in, link_in, rest_of_link, IsFirst, with_ahead}
use Rattle.std.proofs.lemmas.Bool.{eq-eqb, ne_eqb}
use Rattle.outside_core.specs.declared.read_error.ReadError.TheVariants.{Fault, Source, Memory}

-- ---- one packet in front of others
-- the fault at a packet of another link type
abbrev other_at : ℕ → Contents
other_at n = record { packets = []; fault = Some (record { code = other_link; place = n }) }

same_link : (t : Bool) → t ≡ true → (p : CapturedPacket) (n : ℕ) (others : Contents) → (if t then behind_packet p others else other_at n) ≡ behind_packet p others
same_link true is p n others = refl
same_link false is p n others = absurd (true≢false (sym is))

another_link : (t : Bool) → t ≡ false → (p : CapturedPacket) (n : ℕ) (others : Contents) → (if t then behind_packet p others else other_at n) ≡ other_at n
another_link true is p n others = absurd (true≢false is)
another_link false is p n others = refl

-- the contents left of one link type, if the next packet has it
rest_of_next : (link n : ℕ) (old new : Contents) (p : CapturedPacket) → (p.link == link) ≡ true → old.packets ≡ p ∷ new.packets → old.fault ≡ new.fault
    → rest_of_link link n old ≡ behind_packet p (rest_of_link link (n + 1) new)
rest_of_next link n old new p is packets fault =
    ap (λ ps. of_link link (n + 1) ps old.fault) packets ∙ ap (of_link link (n + 1) (p ∷ new.packets)) fault
    ∙ same_link (p.link == link) is p (n + 1) (rest_of_link link (n + 1) new)

-- and if the next packet has another one
rest_of_other : (link n : ℕ) (old new : Contents) (p : CapturedPacket) → (p.link == link) ≡ false → old.packets ≡ p ∷ new.packets → old.fault ≡ new.fault
    → rest_of_link link n old ≡ other_at (n + 1)
rest_of_other link n old new p is packets fault =
    ap (λ ps. of_link link (n + 1) ps old.fault) packets ∙ ap (of_link link (n + 1) (p ∷ new.packets)) fault
    ∙ another_link (p.link == link) is p (n + 1) (rest_of_link link (n + 1) new)

-- ---- after the packet read ahead
comes_of_link : (link n next : ℕ) (old new : Option Contents) (p : CapturedPacket) → next ≡ n + 1 → (p.link == link) ≡ true → Comes old new p
    → Comes (option_map (rest_of_link link n) old) (option_map (rest_of_link link next) new) p
comes_of_link link n next None new p one is came = tt
comes_of_link link n next (Some old) None p one is came = absurd came
comes_of_link link n next (Some old) (Some new) p one is came =
    let split = rest_of_next link n old new p is came.0 came.1 in
    rw (one) (ap (λ (c : Contents). c.packets) split, ap (λ (c : Contents). c.fault) split)

next_of_link : (policy : Resolved) (n next link : ℕ) (old new : Option Contents) (p : Packet) (captured : List ℕ) → next ≡ n + 1 → IsNext policy n old new link p captured
    → IsNext policy n (option_map (rest_of_link link n) old) (option_map (rest_of_link link next) new) link p captured
next_of_link policy n next link old new p captured one is = record {
  comes = comes_of_link link n next old new (packet_told link p captured) one (eq-eqb link link refl) is.comes;
  packet = is.packet;
  sendable = is.sendable;
  short = is.short;
}

-- the next packet is the next one of its link type
pub next_alike : (policy : Resolved) (n next link own : ℕ) (old new : Option Contents) (p : Packet) (captured : List ℕ) → next ≡ n + 1 → own ≡ link → IsNext policy n old new own p captured
    → IsNext policy n (option_map (rest_of_link link n) old) (option_map (rest_of_link link next) new) link p captured
next_alike policy n next link own old new p captured one same is =
    next_of_link policy n next link old new p captured one (subst (λ (m : ℕ). IsNext policy n old new m p captured) same is)

other_told : (n number : ℕ) (left : Contents) → left ≡ other_at (n + 1) → number ≡ n + 1 → IsAt (Some (record { code = other_link; place = number })) (Some left)
other_told n number left is numbered =
    (ap (λ (c : Contents). c.packets) is, ap (λ (c : Contents). c.fault) is ∙ ap (λ (m : ℕ). Some (record { code = other_link; place = m })) (sym numbered))

-- a packet of another link type is reported by its number
pub stops_at_other : (policy : Resolved) (n link own : ℕ) (old new : Option Contents) (p : Packet) (captured : List ℕ) → (own ≡ link → ⊥) → IsNext policy n old new own p captured
    → StopsAt (option_map (rest_of_link link n) old) (Fault other_link p.number)
stops_at_other policy n link own None new p captured differs is = tt
stops_at_other policy n link own (Some old) None p captured differs is = absurd is.comes
stops_at_other policy n link own (Some old) (Some new) p captured differs is =
    other_told n p.number (rest_of_link link n old)
    (rest_of_other link n old new (packet_told own p captured) (ne_eqb own link differs) is.comes.0 is.comes.1) (ap (λ (q : Packet). q.number) is.packet)

-- if no packet is left, none of its link type is
pub at_end : (fault : Option FaultAt) (link n : ℕ) (old : Option Contents) → IsAt fault old → IsAt fault (option_map (rest_of_link link n) old)
at_end fault link n None at = tt
at_end fault link n (Some old) at =
    (ap (λ ps. (of_link link (n + 1) ps old.fault).packets) at.0, ap (λ ps. (of_link link (n + 1) ps old.fault).fault) at.0 ∙ at.1)

pub stops_at_end : (link n : ℕ) (old : Option Contents) (h : ReadError) → StopsAt old h → StopsAt (option_map (rest_of_link link n) old) h
stops_at_end link n old (Fault c p) at = at_end (Some (record { code = c; place = p })) link n old at
stops_at_end link n old Source at = tt
stops_at_end link n old Memory at = tt

pub over_at_end : (link n : ℕ) (new : Option Contents) → new ≡ Some nothing_left → option_map (rest_of_link link n) new ≡ Some nothing_left
over_at_end link n new over = ap (option_map (rest_of_link link n)) over

-- ---- the packet read ahead
-- the contents left, with this packet in front
abbrev pub behind_ahead : ℕ → ℕ → List ℕ → Option Packet → Option Contents → Option Contents
behind_ahead link read captured ahead = option_map (λ (c : Contents). with_ahead link ahead captured (rest_of_link link read c))

-- it is the next packet
first_comes : (link read : ℕ) (captured : List ℕ) (p : Packet) (old : Option Contents) → Comes (behind_ahead link read captured (Some p) old) (behind_ahead link read captured None old) (packet_told link p captured)
first_comes link read captured p None = tt
first_comes link read captured p (Some old) = (refl, refl)

pub first_next : (policy : Resolved) (read link : ℕ) (captured : List ℕ) (p : Packet) (old : Option Contents) → IsFirst policy read link captured p
    → IsNext policy 0 (behind_ahead link read captured (Some p) old) (behind_ahead link read captured None old) link p captured
first_next policy read link captured p old is = record {
  comes = first_comes link read captured p old;
  packet = is.packet;
  sendable = is.sendable;
  short = is.short;
}

-- ---- after the beginning
first_opens : (c left : Contents) (p : CapturedPacket) → c.packets ≡ p ∷ left.packets → c.fault ≡ left.fault
    → Opens (one_link_in (holds c)) (Some (behind_packet p (rest_of_link p.link 1 left)))
first_opens c left p packets fault = rw (packets, fault) (ap Some (sym (same_link (p.link == p.link) (eq-eqb p.link p.link refl) p 1 (rest_of_link p.link 1 left))))

comes_open : (c : Contents) (left : Option Contents) (p : Packet) (link read : ℕ) (captured : List ℕ) → read ≡ 1 → Comes (Some c) left (packet_told link p captured)
    → Opens (one_link_in (holds c)) (behind_ahead link read captured (Some p) left)
comes_open c None p link read captured one came = absurd came
comes_open c (Some left) p link read captured one came = rw (one) (first_opens c left (packet_told link p captured) came.0 came.1)

-- up to another link type, the file holds the first packet and those of its link type
pub opens_first : (file : FileContents) (old left : Option Contents) (p : Packet) (link read : ℕ) (captured : List ℕ) → read ≡ 1 → Comes old left (packet_told link p captured)
    → Opens file old → Opens (one_link_in file) (behind_ahead link read captured (Some p) left)
opens_first (no_capture fault) old left p link read captured one came opened = absurd opened
opens_first (holds c) old left p link read captured one came opened =
    comes_open c left p link read captured one (subst (λ (o : Option Contents). Comes o left (packet_told link p captured)) opened came)

none_opens : (c : Contents) → IsAt None (Some c) → one_link_in (holds c) ≡ holds nothing_left
none_opens c at = rw (at.0, at.1) refl

pub opens_none : (file : FileContents) (old left : Option Contents) (link read : ℕ) (captured : List ℕ) → IsAt None old → left ≡ Some nothing_left
    → Opens file old → Opens (one_link_in file) (behind_ahead link read captured None left)
opens_none (no_capture fault) old left link read captured at over opened = absurd opened
opens_none (holds c) old left link read captured at over opened =
    let none = none_opens c (subst (IsAt None) opened at) in
    subst (λ (f : FileContents). Opens f (behind_ahead link read captured None left)) (sym none) (over_at_end link read left over)

-- its link type
link_of_comes : (c : Contents) (left : Option Contents) (p : CapturedPacket) → Comes (Some c) left p → p.link ≡ first_link c.packets
link_of_comes c None p came = absurd came
link_of_comes c (Some left) p came = sym (ap first_link came.0)

pub link_of_first : (file : FileContents) (old left : Option Contents) (p : CapturedPacket) → Comes old left p → Opens file old → p.link ≡ link_in file
link_of_first (no_capture fault) old left p came opened = absurd opened
link_of_first (holds c) old left p came opened = link_of_comes c left p (subst (λ (o : Option Contents). Comes o left p) opened came)

pub link_of_none : (file : FileContents) (old : Option Contents) → IsAt None old → Opens file old → 0 ≡ link_in file
link_of_none (no_capture fault) old at opened = absurd opened
link_of_none (holds c) old at opened =
    let none : IsAt None (Some c) = subst (IsAt None) opened at in
    sym (ap first_link none.0)

-- a fault instead of a first packet
fault_refuses : (c : Contents) (fault : FaultAt) → IsAt (Some fault) (Some c) → one_link_in (holds c) ≡ no_capture fault
fault_refuses c fault at = rw (at.0, at.1) refl

pub refuses_first : (file : FileContents) (old : Option Contents) (h : ReadError) → StopsAt old h → Opens file old → Refuses h (one_link_in file)
refuses_first (no_capture fault) old h at opened = absurd opened
refuses_first (holds contents) old (Fault c p) at opened =
    fault_refuses contents (record { code = c; place = p }) (subst (IsAt (Some (record { code = c; place = p }))) opened at)
refuses_first (holds contents) old Source at opened = tt
refuses_first (holds contents) old Memory at opened = tt

-- and it is the first
pub is_first : (policy : Resolved) (given read link : ℕ) (old new : Option Contents) (p : Packet) (captured : List ℕ) → given ≡ 0 → read ≡ given + 1 → IsNext policy given old new link p captured
    → IsFirst policy read link captured p
is_first policy given read link old new p captured none one is = record {
  one = omega (arith, none, one);
  packet = rw none at is.packet;
  sendable = is.sendable;
  short = is.short;
}
