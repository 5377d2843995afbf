-- The state after a drain, and after a script that ends with one.
use Rattle.sched_defs.proofs.Prelude.{◌≡◌, List, [], arith, ℕ, ◌∷◌, Some, ap, subst, sym, ◌+◌, length, Option, ◌++◌, None, false, Bool, true, if◌then◌else◌, replicate, append-nil, nat_lt, Packet, IsAccepted, Policy, size, Depart, Event, after, outcomes, FaultAt, CanBeSent, Arrivals, Course, Departures, Drain, Rest, Step, course, left_by, step_events, stop_at, stopped_or, missing, IsSound, SourceState, Ending}
use Rattle.sched_defs.specs.declared.ending.Ending.TheVariants.{Whole}
use Rattle.sched_defs.specs.Laws.{HoldsNothing, IsDrained, IsEachDrained}
use Rattle.sched_defs.proofs.Leaving.{none_held}
use Rattle.sched_defs.proofs.Runs.{AreDepartures, sound_after, sound_departures, after-append, CanMake-departures, none_lost, departures_count}
use Rattle.sched_defs.proofs.Courses.{IsStepMade, step_made, size_departures}

-- a sound state with an empty tree has no packet queued
pub holds_nothing : (policy : Policy) (s : SourceState) → IsSound policy s → size s.tree ≡ 0 → HoldsNothing s
holds_nothing policy s sound none = record { tree = none; held = none_held policy s sound none }

-- a departure for each queued packet
pub drained : (policy : Policy) (s : SourceState) → IsAccepted policy → IsSound policy s → IsDrained policy (replicate (size s.tree) (Depart None)) s
drained policy s accepted sound =
    let n : ℕ = size s.tree in
    let es : List Event = replicate n (Depart None) in
    let count : AreDepartures (outcomes policy es s) n = departures_count policy n None s in
    let lost = none_lost policy es s accepted sound (CanMake-departures policy n None s) in
    let left = size_departures policy n s accepted sound in
    record {
      popped = omega (arith, lost, left, count.pushed);
      empty = omega (arith, lost, left, count.pushed, count.asked);
      nothing = holds_nothing policy (after policy es s) (sound_departures policy n None s accepted sound) (omega (arith, left));
    }

-- ---- scripts
-- each drain begins in a sound state
pub drained_each : (policy : Policy) (steps : List Step) (packets : List Packet) (first : ℕ) (s : SourceState) → IsAccepted policy → IsSound policy s → CanBeSent policy first packets s → IsEachDrained policy steps packets s
drained_each policy [] packets first s accepted sound can = tt
drained_each policy (step ∷ steps) packets first s accepted sound can =
    let own : List Event = step_events step packets s in
    let made : IsStepMade policy step first packets s = step_made policy step first packets s can in (
      λ e. subst (λ (t : Step). IsDrained policy (step_events t packets s) s) (sym e) (drained policy s accepted sound),
      drained_each policy steps (left_by step packets) made.next (after policy own s) accepted (sound_after policy own s accepted sound made.can) made.rest,
    )

-- no step ends a run whole
never_whole : (step : Step) (packets : List Packet) (fault : Option FaultAt) (event unsent : ℕ) → stop_at step packets fault event ≡ Some (Whole unsent) → ⊥
never_whole (Arrivals k) packets fault event unsent e = by_test (nat_lt (length packets) k) fault e
  where
    by_test : (t : Bool) (f : Option FaultAt) → (if t then Some (missing f event) else None) ≡ Some (Whole unsent) → ⊥
    by_test false f e = cc
    by_test true None e = cc
    by_test true (Some f) e = cc
never_whole (Departures k) packets fault event unsent e = cc
never_whole Rest packets None event unsent e = cc
never_whole Rest packets (Some f) event unsent e = cc
never_whole Drain packets fault event unsent e = cc

-- events that end no run are followed by the others
goes_on : (policy : Policy) (own : List Event) (o : Option Ending) (c : Course) (s : SourceState) (unsent : ℕ) → (o ≡ Some (Whole unsent) → ⊥) → (stopped_or own o c).ending ≡ Whole unsent
    → (c.ending ≡ Whole unsent → HoldsNothing (after policy c.events (after policy own s))) → HoldsNothing (after policy (stopped_or own o c).events s)
goes_on policy own None c s unsent never e rest = subst HoldsNothing (sym (after-append policy own c.events s)) (rest e)
goes_on policy own (Some x) c s unsent never e rest = absurd (never (ap (λ (y : Ending). Some y) e))

pub drained_last : (policy : Policy) (steps : List Step) (packets : List Packet) (fault : Option FaultAt) (first event unsent : ℕ) (s : SourceState) → IsAccepted policy → IsSound policy s → CanBeSent policy first packets s
    → (course policy (steps ++ Drain ∷ []) packets fault s event).ending ≡ Whole unsent → HoldsNothing (after policy (course policy (steps ++ Drain ∷ []) packets fault s event).events s)
drained_last policy [] packets fault first event unsent s accepted sound can e =
    let own : List Event = step_events Drain packets s in
    subst (λ (es : List Event). HoldsNothing (after policy es s)) (sym (append-nil own)) (drained policy s accepted sound).nothing
drained_last policy (step ∷ steps) packets fault first event unsent s accepted sound can e =
    let own : List Event = step_events step packets s in
    let now : ℕ = event + length own in
    let made : IsStepMade policy step first packets s = step_made policy step first packets s can in
    goes_on policy own (stop_at step packets fault now) (course policy (steps ++ Drain ∷ []) (left_by step packets) fault (after policy own s) now) s unsent
    (never_whole step packets fault now unsent) e
    (drained_last policy steps (left_by step packets) fault made.next now unsent (after policy own s) accepted (sound_after policy own s accepted sound made.can) made.rest)
