-- The departures of outcomes: they are on time, there are at most as many as packets departed, and
-- their packets are known.
use Rattle.forward_defs.proofs.Prelude.{List, [], refl, ℕ, ◌∷◌, ◌≡◌, ◌++◌, Bool, Option, false, if◌then◌else◌, true, None, Some, arith, ◌+◌, length, ◌≤◌, nat_lt, ◌<◌, AllByRecursion, Packet, IsAccepted, Policy, sound_arrived, sound_departed, Event, Arrive, Depart, outcomes, Outcome, Arrived, CanMake, Departed, Dropped, departure, Empty, popped_in, IsKnown, IsSound, SourceState, Leaver, arrival_ranks, arrived, class_of, departed, is_full, leaver, Sending, late, sendings, sending_at}
use Rattle.std.proofs.lemmas.Bool.{ltb-true}
use Rattle.sched_defs.proofs.Leaving.{leaves_its_leaf}

module _ (P : Sending → Type 0) where
  -- followed by others of which P holds
  pub all_behind : (first others : List Sending) → AllByRecursion P first → AllByRecursion P others → AllByRecursion P (first ++ others)
  all_behind [] others fs os = os
  all_behind (s ∷ first) others fs os = (fs.0, all_behind first others fs.1 os)

  -- P holds of a departure if it holds of each one with a start that isn't late
  pub all_at : (start : Option ℕ) (p : Packet) → ((m : ℕ) → m < late → P (record { start = m; packet = p })) → AllByRecursion P (sending_at start p)
  all_at None p holds = tt
  all_at (Some m) p holds = by_test (nat_lt m late) refl
    where
      by_test : (t : Bool) → nat_lt m late ≡ t → AllByRecursion P (if t then record { start = m; packet = p } ∷ [] else [])
      by_test true e = (holds m (ltb-true m late e), tt)
      by_test false e = tt

pub sendings-on_time : (os : List Outcome) → AllByRecursion (λ (s : Sending). s.start < late) (sendings os)
sendings-on_time [] = tt
sendings-on_time (Arrived p a ranks ∷ os) = sendings-on_time os
sendings-on_time (Dropped p a ∷ os) = sendings-on_time os
sendings-on_time (Empty ∷ os) = sendings-on_time os
sendings-on_time (Departed p a ranks start ∷ os) =
    all_behind (λ (s : Sending). s.start < late) (sending_at start p) (sendings os)
    (all_at (λ (s : Sending). s.start < late) start p (λ m early. early)) (sendings-on_time os)

sending_at-one : (start : Option ℕ) (p : Packet) (others : List Sending) → length (sending_at start p ++ others) ≤ 1 + length others
sending_at-one None p others = omega arith
sending_at-one (Some m) p others = by_test (nat_lt m late)
  where
    by_test : (t : Bool) → length ((if t then record { start = m; packet = p } ∷ [] else []) ++ others) ≤ 1 + length others
    by_test true = omega arith
    by_test false = omega arith

pub sendings-few : (os : List Outcome) → length (sendings os) ≤ popped_in os
sendings-few [] = omega arith
sendings-few (Arrived p a ranks ∷ os) = sendings-few os
sendings-few (Dropped p a ∷ os) = sendings-few os
sendings-few (Empty ∷ os) = sendings-few os
sendings-few (Departed p a ranks start ∷ os) = omega (arith, sending_at-one start p (sendings os), sendings-few os)

module _ (policy : Policy) (accepted : IsAccepted policy) where
  abbrev IsKnownSending : Sending → Type 0
  IsKnownSending s = IsKnown policy s.packet

  known_arrival : (t : Bool) (p : Packet) (s : SourceState) (os : List Outcome) → AllByRecursion IsKnownSending (sendings os)
      → AllByRecursion IsKnownSending (sendings ((if t then Dropped p (class_of policy p).leaf else Arrived p (class_of policy p).leaf (arrival_ranks policy p s)) ∷ os))
  known_arrival true p s os later = later
  known_arrival false p s os later = later

  known_departure : (start : Option ℕ) (o : Option Leaver) (s : SourceState) (os : List Outcome) → IsSound policy s → leaver s ≡ o → AllByRecursion IsKnownSending (sendings os)
      → AllByRecursion IsKnownSending (sendings (departure start o ∷ os))
  known_departure start None s os sound e later = later
  known_departure start (Some l) s os sound e later =
      let known : IsKnown policy l.packet = sound.known l.packet.number l.packet (leaves_its_leaf policy s l sound e).held in
      all_behind IsKnownSending (sending_at start l.packet) (sendings os) (all_at IsKnownSending start l.packet (λ m early. known)) later

  -- the packets that depart from a sound state are known
  pub sendings-known : (es : List Event) (s : SourceState) → IsSound policy s → CanMake policy es s
      → AllByRecursion (λ (s : Sending). IsKnown policy s.packet) (sendings (outcomes policy es s))
  sendings-known [] s sound can = tt
  sendings-known (Arrive p ∷ es) s sound can =
      known_arrival (is_full policy p s) p s (outcomes policy es (arrived policy p s))
      (sendings-known es (arrived policy p s) (sound_arrived policy p s accepted sound can.0) can.1)
  sendings-known (Depart start ∷ es) s sound can =
      known_departure start (leaver s) s (outcomes policy es (departed policy s)) sound refl
      (sendings-known es (departed policy s) (sound_departed policy s accepted sound) can)
