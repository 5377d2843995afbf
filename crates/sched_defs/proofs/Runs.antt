-- Events in a row.
use Rattle.sched_defs.proofs.Prelude.{◌≡◌, List, [], arith, ℕ, ◌∷◌, Some, ap, refl, subst, sym, ◌+◌, length, suc, zero, Option, ◌++◌, None, false, Bool, true, if◌then◌else◌, map, replicate, ◌≢◌, ◌↔◌, ◌∙◌, Packet, IsAccepted, Policy, limits_at, no_limits, size, Address, CanArrive, Depart, Event, after, outcomes, Arrive, CanMake, Outcome, dropped_in, pushed_in, Arrived, Dropped, asked_in, departure, empty_in, outcome, Departed, Empty, popped_in, step, IsSound, SourceState, departed, arrival_ranks, arrived, class_of, Leaver, is_full, leaver, pushed, dropped, passes_at}
use Rattle.std.proofs.lemmas.Bool.{true≢false}
use Rattle.sched_defs.proofs.Totals.{Meets, way-met}
use Rattle.sched_defs.proofs.Soundness.{sound_arrived, sound_departed}
use Rattle.sched_defs.proofs.Leaving.{size_pushed, size_departed, leaver-none}

pub sound_after : (policy : Policy) (es : List Event) (s : SourceState) → IsAccepted policy → IsSound policy s → CanMake policy es s → IsSound policy (after policy es s)
sound_after policy [] s accepted sound can = sound
sound_after policy (Arrive p ∷ es) s accepted sound can = sound_after policy es (arrived policy p s) accepted (sound_arrived policy p s accepted sound can.0) can.1
sound_after policy (Depart start ∷ es) s accepted sound can = sound_after policy es (departed policy s) accepted (sound_departed policy s accepted sound) can

pub CanMake-departures : (policy : Policy) (n : ℕ) (start : Option ℕ) (s : SourceState) → CanMake policy (replicate n (Depart start)) s
CanMake-departures policy zero start s = tt
CanMake-departures policy (suc n) start s = CanMake-departures policy n start (departed policy s)

pub sound_departures : (policy : Policy) (n : ℕ) (start : Option ℕ) (s : SourceState) → IsAccepted policy → IsSound policy s → IsSound policy (after policy (replicate n (Depart start)) s)
sound_departures policy n start s accepted sound = sound_after policy (replicate n (Depart start)) s accepted sound (CanMake-departures policy n start s)

pub CanMake-front : (policy : Policy) (es fs : List Event) (s : SourceState) → CanMake policy (es ++ fs) s → CanMake policy es s
CanMake-front policy [] fs s can = tt
CanMake-front policy (Arrive p ∷ es) fs s can = (can.0, CanMake-front policy es fs (arrived policy p s) can.1)
CanMake-front policy (Depart start ∷ es) fs s can = CanMake-front policy es fs (departed policy s) can

pub CanMake-back : (policy : Policy) (es fs : List Event) (s : SourceState) → CanMake policy (es ++ fs) s → CanMake policy fs (after policy es s)
CanMake-back policy [] fs s can = can
CanMake-back policy (Arrive p ∷ es) fs s can = CanMake-back policy es fs (arrived policy p s) can.1
CanMake-back policy (Depart start ∷ es) fs s can = CanMake-back policy es fs (departed policy s) can

pub CanMake-joined : (policy : Policy) (es fs : List Event) (s : SourceState) → CanMake policy es s → CanMake policy fs (after policy es s) → CanMake policy (es ++ fs) s
CanMake-joined policy [] fs s front back = back
CanMake-joined policy (Arrive p ∷ es) fs s front back = (front.0, CanMake-joined policy es fs (arrived policy p s) front.1 back)
CanMake-joined policy (Depart start ∷ es) fs s front back = CanMake-joined policy es fs (departed policy s) front back

pub CanMake-append : (policy : Policy) (es fs : List Event) (s : SourceState) → CanMake policy (es ++ fs) s ↔ CanMake policy es s × CanMake policy fs (after policy es s)
CanMake-append policy es fs s = (λ can. (CanMake-front policy es fs s can, CanMake-back policy es fs s can), λ both. CanMake-joined policy es fs s both.0 both.1)

pub after-append : (policy : Policy) (es fs : List Event) (s : SourceState) → after policy (es ++ fs) s ≡ after policy fs (after policy es s)
after-append policy [] fs s = refl
after-append policy (e ∷ es) fs s = after-append policy es fs (step policy e s)

pub outcomes-append : (policy : Policy) (es fs : List Event) (s : SourceState) → outcomes policy (es ++ fs) s ≡ outcomes policy es s ++ outcomes policy fs (after policy es s)
outcomes-append policy [] fs s = refl
outcomes-append policy (e ∷ es) fs s = ap (λ (l : List Outcome). outcome policy e s ∷ l) (outcomes-append policy es fs (step policy e s))

-- ---- counts
pub pushed_in-append : (os qs : List Outcome) → pushed_in (os ++ qs) ≡ pushed_in os + pushed_in qs
pushed_in-append [] qs = omega arith
pushed_in-append (Arrived p a ranks ∷ os) qs = omega (arith, pushed_in-append os qs)
pushed_in-append (Departed p a ranks start ∷ os) qs = pushed_in-append os qs
pushed_in-append (Dropped p a ∷ os) qs = pushed_in-append os qs
pushed_in-append (Empty ∷ os) qs = pushed_in-append os qs

pub popped_in-append : (os qs : List Outcome) → popped_in (os ++ qs) ≡ popped_in os + popped_in qs
popped_in-append [] qs = omega arith
popped_in-append (Arrived p a ranks ∷ os) qs = popped_in-append os qs
popped_in-append (Departed p a ranks start ∷ os) qs = omega (arith, popped_in-append os qs)
popped_in-append (Dropped p a ∷ os) qs = popped_in-append os qs
popped_in-append (Empty ∷ os) qs = popped_in-append os qs

pub dropped_in-append : (os qs : List Outcome) → dropped_in (os ++ qs) ≡ dropped_in os + dropped_in qs
dropped_in-append [] qs = omega arith
dropped_in-append (Arrived p a ranks ∷ os) qs = dropped_in-append os qs
dropped_in-append (Departed p a ranks start ∷ os) qs = dropped_in-append os qs
dropped_in-append (Dropped p a ∷ os) qs = omega (arith, dropped_in-append os qs)
dropped_in-append (Empty ∷ os) qs = dropped_in-append os qs

pub empty_in-append : (os qs : List Outcome) → empty_in (os ++ qs) ≡ empty_in os + empty_in qs
empty_in-append [] qs = omega arith
empty_in-append (Arrived p a ranks ∷ os) qs = empty_in-append os qs
empty_in-append (Departed p a ranks start ∷ os) qs = empty_in-append os qs
empty_in-append (Dropped p a ∷ os) qs = empty_in-append os qs
empty_in-append (Empty ∷ os) qs = omega (arith, empty_in-append os qs)

-- the counts of one outcome
pub record Counts (o : Outcome) (pushed popped dropped empty : ℕ) : Type 0 where
  pub pushes : (os : List Outcome) → pushed_in (o ∷ os) ≡ pushed + pushed_in os
  pub pops : (os : List Outcome) → popped_in (o ∷ os) ≡ popped + popped_in os
  pub drops : (os : List Outcome) → dropped_in (o ∷ os) ≡ dropped + dropped_in os
  pub empties : (os : List Outcome) → empty_in (o ∷ os) ≡ empty + empty_in os

pub counts_arrived : (p : Packet) (a : Address) (ranks : List ℕ) → Counts (Arrived p a ranks) 1 0 0 0
counts_arrived p a ranks = record { pushes = λ os. omega arith; pops = λ os. omega arith; drops = λ os. omega arith; empties = λ os. omega arith }

pub counts_departed : (p : Packet) (a : Address) (ranks : List ℕ) (start : Option ℕ) → Counts (Departed p a ranks start) 0 1 0 0
counts_departed p a ranks start = record { pushes = λ os. omega arith; pops = λ os. omega arith; drops = λ os. omega arith; empties = λ os. omega arith }

pub counts_dropped : (p : Packet) (a : Address) → Counts (Dropped p a) 0 0 1 0
counts_dropped p a = record { pushes = λ os. omega arith; pops = λ os. omega arith; drops = λ os. omega arith; empties = λ os. omega arith }

pub counts_empty : Counts Empty 0 0 0 1
counts_empty = record { pushes = λ os. omega arith; pops = λ os. omega arith; drops = λ os. omega arith; empties = λ os. omega arith }

-- an arrival is one push or one drop
pub data ArrivalCounts (policy : Policy) (p : Packet) (s : SourceState) : Type 0 where
  pushes : Counts (outcome policy (Arrive p) s) 1 0 0 0 → size (arrived policy p s).tree ≡ size s.tree + 1 → ArrivalCounts policy p s
  drops : Counts (outcome policy (Arrive p) s) 0 0 1 0 → size (arrived policy p s).tree ≡ size s.tree → ArrivalCounts policy p s

pub arrival_counts : (policy : Policy) (p : Packet) (s : SourceState) → IsAccepted policy → IsSound policy s → CanArrive policy s p → ArrivalCounts policy p s
arrival_counts policy p s accepted sound can = by_test (is_full policy p s) refl
  where
    by_test : (t : Bool) → is_full policy p s ≡ t → ArrivalCounts policy p s
    by_test true e = drops (rw e (counts_dropped p (class_of policy p).leaf)) (rw e refl)
    by_test false e = pushes (rw e (counts_arrived p (class_of policy p).leaf (arrival_ranks policy p s))) (rw e (size_pushed policy p s accepted sound can))

-- a departure is one pop, or finds nothing
pub data DepartureCounts (policy : Policy) (start : Option ℕ) (s : SourceState) : Type 0 where
  pops : Counts (outcome policy (Depart start) s) 0 1 0 0 → size s.tree ≡ size (departed policy s).tree + 1 → DepartureCounts policy start s
  finds_none : Counts (outcome policy (Depart start) s) 0 0 0 1 → size s.tree ≡ 0 → size (departed policy s).tree ≡ 0 → DepartureCounts policy start s

pub departure_counts : (policy : Policy) (start : Option ℕ) (s : SourceState) → IsSound policy s → DepartureCounts policy start s
departure_counts policy start s sound = by_leaver (leaver s) refl
  where
    by_leaver : (o : Option Leaver) → leaver s ≡ o → DepartureCounts policy start s
    by_leaver None e =
        let z : size s.tree ≡ 0 = (leaver-none policy s sound).0 e in
        let d = size_departed policy s sound in
        finds_none (rw e counts_empty) z (omega arith)
    by_leaver (Some l) e =
        let ne : size s.tree ≢ 0 = λ z. (let n = (leaver-none policy s sound).1 z in cc) in
        let d = size_departed policy s sound in
        pops (rw e (counts_departed l.packet l.digits l.ranks start)) (omega arith)

lost_by_arrival : (policy : Policy) (p : Packet) (s : SourceState) (os : List Outcome) (left : ℕ) → ArrivalCounts policy p s → left + popped_in os ≡ size (arrived policy p s).tree + pushed_in os
    → left + popped_in (outcome policy (Arrive p) s ∷ os) ≡ size s.tree + pushed_in (outcome policy (Arrive p) s ∷ os)
lost_by_arrival policy p s os left (pushes c size_is) rest = omega (arith, rest, size_is, c.pushes os, c.pops os)
lost_by_arrival policy p s os left (drops c size_is) rest = omega (arith, rest, size_is, c.pushes os, c.pops os)

lost_by_departure : (policy : Policy) (start : Option ℕ) (s : SourceState) (os : List Outcome) (left : ℕ) → DepartureCounts policy start s → left + popped_in os ≡ size (departed policy s).tree + pushed_in os
    → left + popped_in (outcome policy (Depart start) s ∷ os) ≡ size s.tree + pushed_in (outcome policy (Depart start) s ∷ os)
lost_by_departure policy start s os left (pops c size_is) rest = omega (arith, rest, size_is, c.pushes os, c.pops os)
lost_by_departure policy start s os left (finds_none c before behind) rest = omega (arith, rest, before, behind, c.pushes os, c.pops os)

pub none_lost : (policy : Policy) (es : List Event) (s : SourceState) → IsAccepted policy → IsSound policy s → CanMake policy es s
    → size (after policy es s).tree + popped_in (outcomes policy es s) ≡ size s.tree + pushed_in (outcomes policy es s)
none_lost policy [] s accepted sound can = refl
none_lost policy (Arrive p ∷ es) s accepted sound can =
    lost_by_arrival policy p s (outcomes policy es (arrived policy p s)) (size (after policy es (arrived policy p s)).tree) (arrival_counts policy p s accepted sound can.0)
    (none_lost policy es (arrived policy p s) accepted (sound_arrived policy p s accepted sound can.0) can.1)
none_lost policy (Depart start ∷ es) s accepted sound can =
    lost_by_departure policy start s (outcomes policy es (departed policy s)) (size (after policy es (departed policy s)).tree) (departure_counts policy start s sound)
    (none_lost policy es (departed policy s) accepted (sound_departed policy s accepted sound) can)

departure_drops_none : (start : Option ℕ) (o : Option Leaver) (os : List Outcome) → dropped_in os ≡ 0 → dropped_in (departure start o ∷ os) ≡ 0
departure_drops_none start None os none = none
departure_drops_none start (Some l) os none = none

-- no limit is passed where there is none
pub none_is_over : (policy : Policy) (p : Packet) (s : SourceState) (a : Address) → limits_at policy a ≡ no_limits → passes_at policy p s a ≡ false
none_is_over policy p s a none = rw none refl

is_never_full : (policy : Policy) (p : Packet) (s : SourceState) → ((a : Address) → limits_at policy a ≡ no_limits) → is_full policy p s ≡ false
is_never_full policy p s free = by_test (is_full policy p s) refl
  where
    by_test : (t : Bool) → is_full policy p s ≡ t → is_full policy p s ≡ false
    by_test false e = e
    by_test true e =
        let m : Meets (passes_at policy p s) (class_of policy p).leaf = way-met (passes_at policy p s) (class_of policy p).leaf e in
        absurd (true≢false (sym m.met ∙ none_is_over policy p s m.at (free m.at)))

pub none_dropped : (policy : Policy) (es : List Event) (s : SourceState) → ((a : Address) → limits_at policy a ≡ no_limits) → dropped_in (outcomes policy es s) ≡ 0
none_dropped policy [] s free = refl
none_dropped policy (Arrive p ∷ es) s free =
    let rest : dropped_in (outcomes policy es (pushed policy p s)) ≡ 0 = none_dropped policy es (pushed policy p s) free in
    subst (λ (t : Bool). dropped_in ((if t then Dropped p (class_of policy p).leaf else Arrived p (class_of policy p).leaf (arrival_ranks policy p s)) ∷ outcomes policy es (if t then dropped p s else pushed policy p s)) ≡ 0)
    (sym (is_never_full policy p s free)) rest
none_dropped policy (Depart start ∷ es) s free = departure_drops_none start (leaver s) (outcomes policy es (departed policy s)) (none_dropped policy es (departed policy s) free)

-- ---- arrivals in a row
pub record AreArrivals (os : List Outcome) (n : ℕ) : Type 0 where
  pub pushed_or_dropped : pushed_in os + dropped_in os ≡ n
  pub asked : asked_in os ≡ 0

one_arrival : (policy : Policy) (p : Packet) (s : SourceState) (os : List Outcome) (n : ℕ) → ArrivalCounts policy p s → AreArrivals os n → AreArrivals (outcome policy (Arrive p) s ∷ os) (suc n)
one_arrival policy p s os n (pushes c size_is) rest =
    record { pushed_or_dropped = omega (arith, rest.pushed_or_dropped, c.pushes os, c.drops os); asked = omega (arith, rest.asked, c.pops os, c.empties os) }
one_arrival policy p s os n (drops c size_is) rest =
    record { pushed_or_dropped = omega (arith, rest.pushed_or_dropped, c.pushes os, c.drops os); asked = omega (arith, rest.asked, c.pops os, c.empties os) }

pub arrivals_count : (policy : Policy) (ps : List Packet) (s : SourceState) → IsAccepted policy → IsSound policy s → CanMake policy (map Arrive ps) s → AreArrivals (outcomes policy (map Arrive ps) s) (length ps)
arrivals_count policy [] s accepted sound can = record { pushed_or_dropped = refl; asked = refl }
arrivals_count policy (p ∷ ps) s accepted sound can =
    one_arrival policy p s (outcomes policy (map Arrive ps) (arrived policy p s)) (length ps) (arrival_counts policy p s accepted sound can.0)
    (arrivals_count policy ps (arrived policy p s) accepted (sound_arrived policy p s accepted sound can.0) can.1)

-- ---- departures in a row
pub record AreDepartures (os : List Outcome) (n : ℕ) : Type 0 where
  pub asked : asked_in os ≡ n
  pub pushed : pushed_in os ≡ 0
  pub dropped : dropped_in os ≡ 0

one_departure : (start : Option ℕ) (o : Option Leaver) (os : List Outcome) (n : ℕ) → AreDepartures os n → AreDepartures (departure start o ∷ os) (suc n)
one_departure start None os n rest = record { asked = omega (arith, rest.asked); pushed = rest.pushed; dropped = rest.dropped }
one_departure start (Some l) os n rest = record { asked = omega (arith, rest.asked); pushed = rest.pushed; dropped = rest.dropped }

pub departures_count : (policy : Policy) (n : ℕ) (start : Option ℕ) (s : SourceState) → AreDepartures (outcomes policy (replicate n (Depart start)) s) n
departures_count policy zero start s = record { asked = refl; pushed = refl; dropped = refl }
departures_count policy (suc n) start s =
    one_departure start (leaver s) (outcomes policy (replicate n (Depart start)) (departed policy s)) n (departures_count policy n start (departed policy s))
