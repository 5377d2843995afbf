-- The stored timestamps are those of the queued packets, so events by them are the events by the
-- packets' own timestamps.
use Rattle.summary_core.proofs.Prelude.{ℕ, ◌≡◌, List, ap, ◌∙◌, sym, [], ◌∷◌, refl, subst, Bool, Some, if◌then◌else◌, Option, false, true, None, ◌==◌, option_map, Outcome, outcomes, Arrive, Arrived, CanMake, Depart, Dropped, Event, departure, outcome, start, Leaver, SourceState, arrival_ranks, arrived, class_of, departed, dropped, is_full, leaver, leaving, left_from, left_with, pushed, LinkRate, ClassEvent, class_events, events_by, no_timestamps, Timestamps, of_class, stamps_after, times_of}
use Rattle.tree_defs.specs.Tree.{Address, Popping, option_bind}
use Rattle.tree_defs.specs.SourceTree.{SourceTree, pop}
use Rattle.packet_defs.specs.declared.packet.Packet.{Packet}
use Rattle.policy_defs.specs.Policy.{Policy}
use Rattle.policy_defs.specs.Accepted.{IsAccepted}
use Rattle.sched_defs.specs.Sound.{IsSound, IsAtItsLeaf}
use Rattle.sched_defs.specs.Events.{Departed}
use Rattle.sched_defs.proofs.Soundness.{sound_start, sound_arrived, sound_departed, popped_is_held}
use Rattle.summary_core.specs.declared.event.PacketEvent.TheVariants as event

-- the timestamp of each queued packet is stored
abbrev AreKept : SourceState → Timestamps → Type 0
AreKept s k = (n : ℕ) (p : Packet) → s.held n ≡ Some p → k n ≡ Some p.moment

-- ---- a departure
-- a property that holds if nothing departs, and for each packet that departs, holds for a departure
by_departure : (policy : Policy) (s : SourceState) (P : SourceState → Option Leaver → Type 0) → IsSound policy s → P s None
    → ((taken : Popping SourceTree) (p : Packet) → s.held taken.value ≡ Some p → P (left_with policy s taken (Some p)) (Some (leaving taken p))) → P (departed policy s) (leaver s)
by_departure policy s P sound nothing something = by_pop (pop s.tree) refl
  where
    by_pop : (o : Option (Popping SourceTree)) → pop s.tree ≡ o → P (left_from policy s o) (option_bind o (λ taken. option_map (leaving taken) (s.held taken.value)))
    by_pop None e = nothing
    by_pop (Some taken) e =
        let at : IsAtItsLeaf policy s (taken.digits, taken.value) = popped_is_held policy s taken sound e in
        subst (λ (o : Option Packet). P (left_with policy s taken o) (option_map (leaving taken) o)) (sym at.held) (something taken at.packet at.held)

no_packet : {X : Type 0} {x : X} → None ≡ Some x → ⊥
no_packet e = cc

-- the timestamps of the other packets stay
others_stay : (t : Bool) (held : Option Packet) (kept : Option ℕ) (q : Packet) → (held ≡ Some q → kept ≡ Some q.moment)
    → (if t then None else held) ≡ Some q → (if t then None else kept) ≡ Some q.moment
others_stay true held kept q given e = absurd (no_packet e)
others_stay false held kept q given e = given e

kept_departed : (policy : Policy) (start : Option ℕ) (s : SourceState) (k : Timestamps) → IsSound policy s → AreKept s k
    → AreKept (departed policy s) (stamps_after k (departure start (leaver s)))
kept_departed policy start s k sound kept =
    by_departure policy s (λ after o. AreKept after (stamps_after k (departure start o))) sound kept
    (λ taken p held n q. subst (λ (m : ℕ). (if n == taken.value then None else s.held n) ≡ Some q → (if n == m then None else k n) ≡ Some q.moment)
    (sym (sound.numbered taken.value p held)) (others_stay (n == taken.value) (s.held n) (k n) q (kept n q)))

-- ---- an arrival
-- the timestamp of the packet that arrived is stored, and those of the others stay
one_more : (t : Bool) (p : Packet) (held : Option Packet) (kept : Option ℕ) (q : Packet)
    → (held ≡ Some q → kept ≡ Some q.moment) → (if t then Some p else held) ≡ Some q → (if t then Some p.moment else kept) ≡ Some q.moment
one_more true p held kept q given e = ap (λ (o : Option Packet). option_map (λ r. r.moment) o) e
one_more false p held kept q given e = given e

kept_arrived : (policy : Policy) (p : Packet) (s : SourceState) (k : Timestamps) → AreKept s k → AreKept (arrived policy p s) (stamps_after k (outcome policy (Arrive p) s))
kept_arrived policy p s k kept = by_full (is_full policy p s)
  where
    by_full : (t : Bool) → AreKept (if t then dropped p s else pushed policy p s)
        (stamps_after k (if t then Dropped p (class_of policy p).leaf else Arrived p (class_of policy p).leaf (arrival_ranks policy p s)))
    by_full true = kept
    by_full false = λ n q. one_more (n == p.number) p (s.held n) (k n) q (kept n q)

-- ---- events
arrival_first : (rate : LinkRate) (t : Bool) (k : Timestamps) (p : Packet) (a : Address) (ranks : List ℕ) (os : List Outcome)
    → events_by rate (stamps_after k (if t then Dropped p a else Arrived p a ranks)) os ≡ class_events rate os
    → events_by rate k ((if t then Dropped p a else Arrived p a ranks) ∷ os) ≡ class_events rate ((if t then Dropped p a else Arrived p a ranks) ∷ os)
arrival_first rate true k p a ranks os later = ap (λ (es : List ClassEvent). of_class p.class event.Dropped ∷ es) later
arrival_first rate false k p a ranks os later = ap (λ (es : List ClassEvent). of_class p.class (event.Arrived p.len p.moment) ∷ es) later

departure_first : (rate : LinkRate) (policy : Policy) (start : Option ℕ) (s : SourceState) (k : Timestamps) → IsSound policy s → AreKept s k → (os : List Outcome)
    → events_by rate (stamps_after k (departure start (leaver s))) os ≡ class_events rate os
    → events_by rate k (departure start (leaver s) ∷ os) ≡ class_events rate (departure start (leaver s) ∷ os)
departure_first rate policy start s k sound kept os =
    by_departure policy s (λ after o. events_by rate (stamps_after k (departure start o)) os ≡ class_events rate os → events_by rate k (departure start o ∷ os) ≡ class_events rate (departure start o ∷ os)) sound
    (λ later. later)
    (λ taken p held later.
    ap (λ (o : Option ℕ). of_class p.class (event.Departed p.len (times_of rate p.len start o)) ∷ events_by rate (stamps_after k (Departed p taken.digits taken.ranks start)) os)
    (subst (λ (m : ℕ). k m ≡ Some p.moment) (sym (sound.numbered taken.value p held)) (kept taken.value p held))
    ∙ ap (λ (es : List ClassEvent). of_class p.class (event.Departed p.len (times_of rate p.len start (Some p.moment))) ∷ es) later)

module _ (policy : Policy) (accepted : IsAccepted policy) (rate : LinkRate) where
  events_from : (es : List Event) (s : SourceState) (k : Timestamps) → IsSound policy s → CanMake policy es s → AreKept s k
      → events_by rate k (outcomes policy es s) ≡ class_events rate (outcomes policy es s)
  events_from [] s k sound can kept = refl
  events_from (Arrive p ∷ es) s k sound can kept =
      arrival_first rate (is_full policy p s) k p (class_of policy p).leaf (arrival_ranks policy p s) (outcomes policy es (arrived policy p s))
      (events_from es (arrived policy p s) (stamps_after k (outcome policy (Arrive p) s)) (sound_arrived policy p s accepted sound can.0) can.1 (kept_arrived policy p s k kept))
  events_from (Depart from ∷ es) s k sound can kept =
      departure_first rate policy from s k sound kept (outcomes policy es (departed policy s))
      (events_from es (departed policy s) (stamps_after k (departure from (leaver s))) (sound_departed policy s accepted sound) can (kept_departed policy from s k sound kept))

  -- from the start, the events are those by the packets' own timestamps
  pub events_told : (es : List Event) → CanMake policy es (start policy) → events_by rate no_timestamps (outcomes policy es (start policy)) ≡ class_events rate (outcomes policy es (start policy))
  events_told es can = events_from es (start policy) no_timestamps (sound_start policy accepted) can (λ n p e. cc)
