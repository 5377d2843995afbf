-- The numbers of packets that arrive, are pushed, dropped and popped, and of departures that find
-- none.
use Rattle.sched_run.proofs.Prelude.{ℕ, arith, None, ◌∙◌, ◌≡◌, refl, List, [], ◌+◌, ap, Some, ◌≤◌, Option, ◌++◌, ◌∷◌, length, false, replicate, Bool, map, suc, true, if◌then◌else◌, zero, Ok, Packet, IsAccepted, Policy, arrival_of, leaf_number, pushes_of, Arrival, size_departures, none_lost, outcomes-append, departures_count, CanMake-departures, empty_in-append, AreDepartures, dropped_in-append, popped_in-append, pushed_in-append, Depart, Event, outcomes, after, Outcome, empty_in, departure, dropped_in, pushed_in, Arrived, Dropped, asked_in, IsSound, SourceState, departed, leaver, Leaver, arrived, class_of, arrival_ranks, is_full, size, arrivals_in, departures_in}
use Rattle.sched_defs.specs.Events.{Arrive}
use Rattle.sched_core.specs.declared.scheduler.Arrival.TheVariants as arrival

-- ---- events
pub arrivals_in-append : (es fs : List Event) → arrivals_in (es ++ fs) ≡ arrivals_in es + arrivals_in fs
arrivals_in-append [] fs = omega arith
arrivals_in-append (Arrive p ∷ es) fs = omega (arith, arrivals_in-append es fs)
arrivals_in-append (Depart start ∷ es) fs = arrivals_in-append es fs

pub departures_in-append : (es fs : List Event) → departures_in (es ++ fs) ≡ departures_in es + departures_in fs
departures_in-append [] fs = omega arith
departures_in-append (Arrive p ∷ es) fs = departures_in-append es fs
departures_in-append (Depart start ∷ es) fs = omega (arith, departures_in-append es fs)

pub arrivals_in-arrivals : (ps : List Packet) → arrivals_in (map Arrive ps) ≡ length ps
arrivals_in-arrivals [] = refl
arrivals_in-arrivals (p ∷ ps) = omega (arith, arrivals_in-arrivals ps)

pub departures_in-arrivals : (ps : List Packet) → departures_in (map Arrive ps) ≡ 0
departures_in-arrivals [] = refl
departures_in-arrivals (p ∷ ps) = departures_in-arrivals ps

pub arrivals_in-departures : (n : ℕ) → arrivals_in (replicate n (Depart None)) ≡ 0
arrivals_in-departures zero = refl
arrivals_in-departures (suc n) = arrivals_in-departures n

pub departures_in-departures : (n : ℕ) → departures_in (replicate n (Depart None)) ≡ n
departures_in-departures zero = refl
departures_in-departures (suc n) = omega (arith, departures_in-departures n)

-- ---- their outcomes
-- each packet that arrived was pushed or dropped, and each departure popped a packet or found none
pub record AreOf (es : List Event) (os : List Outcome) : Type 0 where
  pub pushed_or_dropped : pushed_in os + dropped_in os ≡ arrivals_in es
  pub asked : asked_in os ≡ departures_in es

of_arrival : (p : Packet) (t : Bool) (policy : Policy) (s : SourceState) (es : List Event) (os : List Outcome) → AreOf es os →
    AreOf (Arrive p ∷ es) ((if t then Dropped p (class_of policy p).leaf else Arrived p (class_of policy p).leaf (arrival_ranks policy p s)) ∷ os)
of_arrival p true policy s es os rest = record { pushed_or_dropped = omega (arith, rest.pushed_or_dropped); asked = rest.asked }
of_arrival p false policy s es os rest = record { pushed_or_dropped = omega (arith, rest.pushed_or_dropped); asked = rest.asked }

of_departure : (start : Option ℕ) (o : Option Leaver) (es : List Event) (os : List Outcome) → AreOf es os → AreOf (Depart start ∷ es) (departure start o ∷ os)
of_departure start None es os rest = record { pushed_or_dropped = rest.pushed_or_dropped; asked = omega (arith, rest.asked) }
of_departure start (Some l) es os rest = record { pushed_or_dropped = rest.pushed_or_dropped; asked = omega (arith, rest.asked) }

pub outcomes_of : (policy : Policy) (es : List Event) (s : SourceState) → AreOf es (outcomes policy es s)
outcomes_of policy [] s = record { pushed_or_dropped = refl; asked = refl }
outcomes_of policy (Arrive p ∷ es) s = of_arrival p (is_full policy p s) policy s es (outcomes policy es (arrived policy p s)) (outcomes_of policy es (arrived policy p s))
outcomes_of policy (Depart start ∷ es) s = of_departure start (leaver s) es (outcomes policy es (departed policy s)) (outcomes_of policy es (departed policy s))

-- the answer of an arrival shows whether it is a push
pub pushes_are : (policy : Policy) (p : Packet) (s : SourceState) (a : Arrival) → a ≡ arrival_of policy p s → pushes_of (Ok a) ≡ pushed_in (outcomes policy (Arrive p ∷ []) s)
pushes_are policy p s a e = ap (λ (x : Arrival). pushes_of (Ok x)) e ∙ by_test (is_full policy p s)
  where
    by_test : (t : Bool) → pushes_of (Ok (if t then arrival.Dropped (leaf_number policy p) else arrival.Pushed (leaf_number policy p)))
        ≡ pushed_in ((if t then Dropped p (class_of policy p).leaf else Arrived p (class_of policy p).leaf (arrival_ranks policy p s)) ∷ [])
    by_test true = refl
    by_test false = refl

-- events, and then some more
pub record AreBoth (all first second : List Outcome) : Type 0 where
  pub pushed : pushed_in all ≡ pushed_in first + pushed_in second
  pub dropped : dropped_in all ≡ dropped_in first + dropped_in second
  pub empty : empty_in all ≡ empty_in first + empty_in second
  pub asked : asked_in all ≡ asked_in first + asked_in second

both : (os qs : List Outcome) → AreBoth (os ++ qs) os qs
both os qs = record {
  pushed = pushed_in-append os qs;
  dropped = dropped_in-append os qs;
  empty = empty_in-append os qs;
  asked = omega (arith, popped_in-append os qs, empty_in-append os qs);
}

pub outcomes_both : (policy : Policy) (es fs : List Event) (s : SourceState) → AreBoth (outcomes policy (es ++ fs) s) (outcomes policy es s) (outcomes policy fs (after policy es s))
outcomes_both policy es fs s = rw (outcomes-append policy es fs s) (both (outcomes policy es s) (outcomes policy fs (after policy es s)))

-- ---- departures that find no packet
pub empty_in-arrivals : (policy : Policy) (ps : List Packet) (s : SourceState) → empty_in (outcomes policy (map Arrive ps) s) ≡ 0
empty_in-arrivals policy ps s = omega (arith, (outcomes_of policy (map Arrive ps) s).asked, departures_in-arrivals ps)

-- of n departures at most n find no packet
pub empty_in-departures : (policy : Policy) (n : ℕ) (s : SourceState) → empty_in (outcomes policy (replicate n (Depart None)) s) ≤ n
empty_in-departures policy n s = omega (arith, (departures_count policy n None s).asked)

-- and all find one if n packets are queued
pub empty_in-drain : (policy : Policy) (n : ℕ) (s : SourceState) → IsAccepted policy → IsSound policy s → n ≡ size s.tree → empty_in (outcomes policy (replicate n (Depart None)) s) ≡ 0
empty_in-drain policy n s accepted sound e =
    let d : AreDepartures (outcomes policy (replicate n (Depart None)) s) n = departures_count policy n None s in
    omega (arith, e, d.asked, d.pushed, size_departures policy n s accepted sound, none_lost policy (replicate n (Depart None)) s accepted sound (CanMake-departures policy n None s))
