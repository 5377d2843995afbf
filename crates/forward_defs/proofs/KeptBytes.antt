-- The captured bytes kept are those of the queued packets, so the records written one by one are
-- those of all departures.
use Rattle.forward_defs.proofs.Prelude.{List, [], refl, ℕ, ◌∷◌, ◌≡◌, ap, ◌++◌, Bool, Option, false, if◌then◌else◌, sym, true, None, Some, subst, ◌∙◌, map, nat_lt, ◌%◌, ◌/◌, ◌==◌, ◌^◌, append-nil, Packet, IsAccepted, Policy, sound_arrived, sound_departed, sound_start, popped_is_held, Event, Arrive, Depart, outcomes, Outcome, Arrived, CanMake, Departed, Dropped, departure, outcome, Captured, IsSound, IsAtItsLeaf, SourceState, Leaver, arrival_ranks, arrived, class_of, departed, is_full, leaver, start, dropped, leaving, left_from, left_with, pushed, SourceTree, pop, Address, Popping, option_bind, sent_record, Keeping, keeps, records_of, RecordsAreForwarded, keeps_nothing, record_for, Sending, late, sendings, sending_at}
use Rattle.std.specs.Prelude.{option_map}
use Rattle.std.proofs.lemmas.Bool.{eqb-true}
use Rattle.std.proofs.lemmas.List.{map-append}
use Rattle.pcap_core.specs.Bytes.{header_bytes, record_bytes, records_bytes}
use Rattle.pcap_core.proofs.BytesLaws.{records_follow}

-- the captured bytes of each queued packet are kept
abbrev AreKept : Captured → SourceState → Keeping → Type 0
AreKept captured s k = (n : ℕ) (p : Packet) → s.held n ≡ Some p → k.kept n ≡ Some (captured n)

-- ---- a departure
-- P holds of a departure if it holds of a state from which no packet departs, and of each packet
-- that departs
by_departure : (policy : Policy) (s : SourceState) (P : SourceState → Option Leaver → Type 0) → IsSound policy s → P s None
    → ((taken : Popping SourceTree) (p : Packet) → s.held taken.value ≡ Some p → P (left_with policy s taken (Some p)) (Some (leaving taken p))) → P (departed policy s) (leaver s)
by_departure policy s P sound nothing something = by_pop (pop s.tree) refl
  where
    by_pop : (o : Option (Popping SourceTree)) → pop s.tree ≡ o → P (left_from policy s o) (option_bind o (λ taken. option_map (leaving taken) (s.held taken.value)))
    by_pop None e = nothing
    by_pop (Some taken) e =
        let at : IsAtItsLeaf policy s (taken.digits, taken.value) = popped_is_held policy s taken sound e in
        subst (λ (o : Option Packet). P (left_with policy s taken o) (option_map (leaving taken) o)) (sym at.held) (something taken at.packet at.held)

no_packet : {X : Type 0} {x : X} → None ≡ Some x → ⊥
no_packet e = cc

-- the bytes kept of the other packets stay
others_stay : (t : Bool) (held : Option Packet) (kept : Option (List ℕ)) (q : Packet) (bytes : List ℕ) → (held ≡ Some q → kept ≡ Some bytes)
    → (if t then None else held) ≡ Some q → (if t then None else kept) ≡ Some bytes
others_stay true held kept q bytes given e = absurd (no_packet e)
others_stay false held kept q bytes given e = given e

kept_departed : (policy : Policy) (captured : Captured) (start : Option ℕ) (s : SourceState) (k : Keeping) → IsSound policy s → AreKept captured s k
    → AreKept captured (departed policy s) (keeps captured k (departure start (leaver s)))
kept_departed policy captured start s k sound kept =
    by_departure policy s (λ after o. AreKept captured after (keeps captured k (departure start o))) sound kept
    (λ taken p held n q. subst (λ (m : ℕ). (if n == taken.value then None else s.held n) ≡ Some q → (if n == m then None else k.kept n) ≡ Some (captured n))
    (sym (sound.numbered taken.value p held)) (others_stay (n == taken.value) (s.held n) (k.kept n) q (captured n) (kept n q)))

-- ---- an arrival
-- the bytes of the packet that arrived are kept, and those of the others stay
one_more : (t : Bool) (n m : ℕ) (p : Packet) (held : Option Packet) (kept : Option (List ℕ)) (q : Packet) (captured : Captured) → (t ≡ true → n ≡ m)
    → (held ≡ Some q → kept ≡ Some (captured n)) → (if t then Some p else held) ≡ Some q → (if t then Some (captured m) else kept) ≡ Some (captured n)
one_more true n m p held kept q captured same given e = ap (λ (i : ℕ). Some (captured i)) (sym (same refl))
one_more false n m p held kept q captured same given e = given e

kept_arrived : (policy : Policy) (captured : Captured) (p : Packet) (s : SourceState) (k : Keeping) → AreKept captured s k
    → AreKept captured (arrived policy p s) (keeps captured k (outcome policy (Arrive p) s))
kept_arrived policy captured p s k kept = by_full (is_full policy p s)
  where
    by_full : (t : Bool) → AreKept captured (if t then dropped p s else pushed policy p s)
        (keeps captured k (if t then Dropped p (class_of policy p).leaf else Arrived p (class_of policy p).leaf (arrival_ranks policy p s)))
    by_full true = kept
    by_full false = λ n q. one_more (n == p.number) n p.number p (s.held n) (k.kept n) q captured (eqb-true n p.number) (kept n q)

-- ---- records
-- the records of departures
abbrev bytes_of : Captured → List Sending → List ℕ
bytes_of captured sent = records_bytes (map (sent_record captured) sent)

one_record : (captured : Captured) (start : Option ℕ) (p : Packet) → record_for start p.len (Some (captured p.number)) ≡ bytes_of captured (sending_at start p)
one_record captured None p = refl
one_record captured (Some m) p = by_test (nat_lt m late)
  where
    by_test : (t : Bool) → (if t then record_bytes (m / 10 ^ 9) (m % 10 ^ 9) p.len (captured p.number) else []) ≡ bytes_of captured (if t then record { start = m; packet = p } ∷ [] else [])
    by_test true = sym (append-nil (record_bytes (m / 10 ^ 9) (m % 10 ^ 9) p.len (captured p.number)))
    by_test false = refl

bytes_of-append : (captured : Captured) (first others : List Sending) → bytes_of captured (first ++ others) ≡ bytes_of captured first ++ bytes_of captured others
bytes_of-append captured first others =
    ap (λ rs. records_bytes rs) (map-append (sent_record captured) first others) ∙ records_follow (map (sent_record captured) first) (map (sent_record captured) others)

-- after a departure, if the records of the later ones are known
departure_first : (captured : Captured) (start : Option ℕ) (p : Packet) (kept : Option (List ℕ)) (later : List ℕ) (os : List Outcome) → kept ≡ Some (captured p.number) → later ≡ bytes_of captured (sendings os)
    → record_for start p.len kept ++ later ≡ bytes_of captured (sending_at start p ++ sendings os)
departure_first captured start p kept later os is known =
    ap (λ (bytes : Option (List ℕ)). record_for start p.len bytes ++ later) is
    ∙ ap (λ (first : List ℕ). first ++ later) (one_record captured start p)
    ∙ ap (λ (rest : List ℕ). bytes_of captured (sending_at start p) ++ rest) known
    ∙ sym (bytes_of-append captured (sending_at start p) (sendings os))

arrival_first : (t : Bool) (captured : Captured) (k : Keeping) (p : Packet) (a : Address) (ranks : List ℕ) (os : List Outcome)
    → records_of captured (keeps captured k (if t then Dropped p a else Arrived p a ranks)) os ≡ bytes_of captured (sendings os)
    → records_of captured k ((if t then Dropped p a else Arrived p a ranks) ∷ os) ≡ bytes_of captured (sendings ((if t then Dropped p a else Arrived p a ranks) ∷ os))
arrival_first true captured k p a ranks os later = later
arrival_first false captured k p a ranks os later = later

departure_told : (policy : Policy) (captured : Captured) (start : Option ℕ) (s : SourceState) (k : Keeping) → IsSound policy s → AreKept captured s k → (os : List Outcome)
    → records_of captured (keeps captured k (departure start (leaver s))) os ≡ bytes_of captured (sendings os)
    → records_of captured k (departure start (leaver s) ∷ os) ≡ bytes_of captured (sendings (departure start (leaver s) ∷ os))
departure_told policy captured start s k sound kept os =
    by_departure policy s (λ after o. records_of captured (keeps captured k (departure start o)) os ≡ bytes_of captured (sendings os) → records_of captured k (departure start o ∷ os) ≡ bytes_of captured (sendings (departure start o ∷ os))) sound
    (λ later. later)
    (λ taken p held later. departure_first captured start p (k.kept p.number) (records_of captured (keeps captured k (Departed p taken.digits taken.ranks start)) os) os
    (subst (λ (m : ℕ). k.kept m ≡ Some (captured m)) (sym (sound.numbered taken.value p held)) (kept taken.value p held)) later)

module _ (policy : Policy) (accepted : IsAccepted policy) (captured : Captured) where
  pub records_told : (es : List Event) (s : SourceState) (k : Keeping) → IsSound policy s → CanMake policy es s → AreKept captured s k
      → records_of captured k (outcomes policy es s) ≡ bytes_of captured (sendings (outcomes policy es s))
  records_told [] s k sound can kept = refl
  records_told (Arrive p ∷ es) s k sound can kept =
      arrival_first (is_full policy p s) captured k p (class_of policy p).leaf (arrival_ranks policy p s) (outcomes policy es (arrived policy p s))
      (records_told es (arrived policy p s) (keeps captured k (outcome policy (Arrive p) s)) (sound_arrived policy p s accepted sound can.0) can.1 (kept_arrived policy captured p s k kept))
  records_told (Depart start ∷ es) s k sound can kept =
      departure_told policy captured start s k sound kept (outcomes policy es (departed policy s))
      (records_told es (departed policy s) (keeps captured k (departure start (leaver s))) (sound_departed policy s accepted sound) can (kept_departed policy captured start s k sound kept))

pub records_are_forwarded : RecordsAreForwarded
records_are_forwarded policy link captured events accepted can =
    ap (λ (bytes : List ℕ). header_bytes link ++ bytes)
    (records_told policy accepted captured events (start policy) keeps_nothing (sound_start policy accepted) can (λ n p e. absurd (no_packet e)))
