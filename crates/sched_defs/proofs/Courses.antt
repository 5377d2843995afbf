-- The events of a script can be made, and are few.
use Rattle.sched_defs.proofs.Prelude.{◌≡◌, List, [], arith, ℕ, ◌∷◌, Some, ap, refl, subst, sym, ◌+◌, length, suc, zero, Option, ◌++◌, ◌∙◌, None, ◌≤◌, ◌<◌, drop, inl, inr, map, replicate, ◌-◌, take, Packet, IsAccepted, Policy, size, pop, SourceTree, Popping, Depart, Event, after, outcomes, Arrive, CanMake, Outcome, dropped_in, pushed_in, asked_in, FaultAt, CanBeSent, IsHeldBelow, departures_asked, Arrivals, Course, Departures, Drain, Rest, Step, course, left_by, step_events, stop_at, stopped_or, IsSound, SourceState, departed, arrived, left_from, left_with, Held, Ending}
use Rattle.sched_defs.specs.Laws.{IsCourseShort}
use Rattle.sched_defs.proofs.Soundness.{with_packet-is, without-is, by_fullness, sound_departed}
use Rattle.sched_defs.proofs.Runs.{AreArrivals, AreDepartures, sound_after, CanMake-departures, CanMake-joined, outcomes-append, pushed_in-append, popped_in-append, dropped_in-append, empty_in-append, none_lost, arrivals_count, departures_count}
use Rattle.sched_defs.proofs.Leaving.{size_departed}

-- ---- numbers
pub held_none : (held : Held) (n : ℕ) → IsHeldBelow n held → held n ≡ None
held_none held n below = by_held (held n) refl
  where
    by_held : (o : Option Packet) → held n ≡ o → held n ≡ None
    by_held None e = e
    by_held (Some p) e = let l : n < n = below n p e in absurd (omega arith)

pub held_arrived : (policy : Policy) (p : Packet) (s : SourceState) (n : ℕ) → p.number ≡ n → IsHeldBelow n s.held → IsHeldBelow (n + 1) (arrived policy p s).held
held_arrived policy p s n e below = by_fullness policy p s (λ t. IsHeldBelow (n + 1) t.held)
    (λ full m q h. let k = below m q h in omega arith)
    (λ free m q h. elim (with_packet-is s.held p m q h) [
      | inl w ↦ let k = w.0 in omega arith
      | inr w ↦ let k = below m q w in omega arith
    ])

pub held_departed : (policy : Policy) (s : SourceState) (n : ℕ) → IsHeldBelow n s.held → IsHeldBelow n (departed policy s).held
held_departed policy s n below = by_pop (pop s.tree)
  where
    by_packet : (taken : Popping SourceTree) (o : Option Packet) → IsHeldBelow n (left_with policy s taken o).held
    by_packet taken None = below
    by_packet taken (Some p) = λ m q h. below m q (without-is s.held taken.value m q h).1

    by_pop : (o : Option (Popping SourceTree)) → IsHeldBelow n (left_from policy s o).held
    by_pop None = below
    by_pop (Some taken) = by_packet taken (s.held taken.value)

-- a prefix of the packets can arrive
sent_front : (policy : Policy) (n k : ℕ) (packets : List Packet) (s : SourceState) → CanBeSent policy n packets s → CanMake policy (map Arrive (take k packets)) s
sent_front policy n zero packets s can = tt
sent_front policy n (suc k) [] s can = tt
sent_front policy n (suc k) (p ∷ packets) s can =
    let number = can.numbered.0 in (
      record { fresh = ap s.held number ∙ held_none s.held n can.held; known = can.sendable.0.known; moment = can.sendable.0.moment },
      sent_front policy (n + 1) k packets (arrived policy p s) (record { numbered = can.numbered.1; sendable = can.sendable.1; held = held_arrived policy p s n number can.held }),
    )

sent_rest : (policy : Policy) (n k : ℕ) (packets : List Packet) (s : SourceState) → CanBeSent policy n packets s → CanBeSent policy (n + length (take k packets)) (drop k packets) (after policy (map Arrive (take k packets)) s)
sent_rest policy n zero packets s can = subst (λ (m : ℕ). CanBeSent policy m packets s) (omega arith) can
sent_rest policy n (suc k) [] s can = subst (λ (m : ℕ). CanBeSent policy m [] s) (omega arith) can
sent_rest policy n (suc k) (p ∷ packets) s can =
    let more = sent_rest policy (n + 1) k packets (arrived policy p s) (record { numbered = can.numbered.1; sendable = can.sendable.1; held = held_arrived policy p s n can.numbered.0 can.held }) in
    subst (λ (m : ℕ). CanBeSent policy m (drop k packets) (after policy (map Arrive (take k packets)) (arrived policy p s))) (omega arith) more

sent_departures : (policy : Policy) (n k : ℕ) (packets : List Packet) (s : SourceState) → CanBeSent policy n packets s → CanBeSent policy n packets (after policy (replicate k (Depart None)) s)
sent_departures policy n zero packets s can = can
sent_departures policy n (suc k) packets s can =
    sent_departures policy n k packets (departed policy s) (record { numbered = can.numbered; sendable = can.sendable; held = held_departed policy s n can.held })

take_whole : {X : Type 0} (xs : List X) → take (length xs) xs ≡ xs
take_whole [] = refl
take_whole {X} (x ∷ xs) = ap (λ (l : List X). x ∷ l) (take_whole xs)

drop_whole : {X : Type 0} (xs : List X) → drop (length xs) xs ≡ []
drop_whole [] = refl
drop_whole (x ∷ xs) = drop_whole xs

-- after a step, the remaining packets can be sent
pub record IsStepMade (policy : Policy) (step : Step) (n : ℕ) (packets : List Packet) (s : SourceState) : Type 0 where
  pub can : CanMake policy (step_events step packets s) s
  pub next : ℕ
  pub rest : CanBeSent policy next (left_by step packets) (after policy (step_events step packets s) s)

pub step_made : (policy : Policy) (step : Step) (n : ℕ) (packets : List Packet) (s : SourceState) → CanBeSent policy n packets s → IsStepMade policy step n packets s
step_made policy (Arrivals k) n packets s can = record { can = sent_front policy n k packets s can; next = n + length (take k packets); rest = sent_rest policy n k packets s can }
step_made policy (Departures k) n packets s can = record { can = CanMake-departures policy k None s; next = n; rest = sent_departures policy n k packets s can }
step_made policy Rest n packets s can = record {
  can = subst (λ (ps : List Packet). CanMake policy (map Arrive ps) s) (take_whole packets) (sent_front policy n (length packets) packets s can);
  next = n + length packets;
  rest = subst (λ (ps : List Packet). CanBeSent policy (n + length ps) [] (after policy (map Arrive ps) s)) (take_whole packets)
      (subst (λ (ps : List Packet). CanBeSent policy (n + length (take (length packets) packets)) ps (after policy (map Arrive (take (length packets) packets)) s)) (drop_whole packets) (sent_rest policy n (length packets) packets s can));
}
step_made policy Drain n packets s can = record { can = CanMake-departures policy (size s.tree) None s; next = n; rest = sent_departures policy n (size s.tree) packets s can }

stopped_can : (policy : Policy) (events : List Event) (ending : Option Ending) (c : Course) (s : SourceState) → CanMake policy events s → CanMake policy c.events (after policy events s) → CanMake policy (stopped_or events ending c).events s
stopped_can policy events (Some e) c s can rest = can
stopped_can policy events None c s can rest = CanMake-joined policy events c.events s can rest

pub course_can : (policy : Policy) (steps : List Step) (packets : List Packet) (fault : Option FaultAt) (first event : ℕ) (s : SourceState) → CanBeSent policy first packets s → CanMake policy (course policy steps packets fault s event).events s
course_can policy [] packets fault first event s can = tt
course_can policy (step ∷ steps) packets fault first event s can =
    let made : IsStepMade policy step first packets s = step_made policy step first packets s can in
    stopped_can policy (step_events step packets s) (stop_at step packets fault (event + length (step_events step packets s)))
    (course policy steps (left_by step packets) fault (after policy (step_events step packets s) s) (event + length (step_events step packets s))) s made.can
    (course_can policy steps (left_by step packets) fault made.next (event + length (step_events step packets s)) (after policy (step_events step packets s) s) made.rest)

-- ---- counts
length-split : {X : Type 0} (k : ℕ) (xs : List X) → length (take k xs) + length (drop k xs) ≡ length xs
length-split zero xs = omega arith
length-split (suc k) [] = omega arith
length-split (suc k) (x ∷ xs) = let h = length-split k xs in omega arith

-- the counts of a step's outcomes
record IsStepShort (policy : Policy) (step : Step) (packets : List Packet) (s : SourceState) (es : List Event) : Type 0 where
  arrivals : pushed_in (outcomes policy es s) + dropped_in (outcomes policy es s) + length (left_by step packets) ≤ length packets
  departures : asked_in (outcomes policy es s) + size (after policy es s).tree ≤ departures_asked (step ∷ []) + size s.tree + pushed_in (outcomes policy es s)

pub size_departures : (policy : Policy) (n : ℕ) (s : SourceState) → IsAccepted policy → IsSound policy s → size (after policy (replicate n (Depart None)) s).tree ≡ size s.tree - n
size_departures policy zero s accepted sound = omega arith
size_departures policy (suc n) s accepted sound =
    let one = size_departed policy s sound in
    let more = size_departures policy n (departed policy s) accepted (sound_departed policy s accepted sound) in
    omega arith

arrivals_short : (policy : Policy) (step : Step) (packets came : List Packet) (s : SourceState) → IsAccepted policy → IsSound policy s → CanMake policy (map Arrive came) s
    → length came + length (left_by step packets) ≤ length packets → IsStepShort policy step packets s (map Arrive came)
arrivals_short policy step packets came s accepted sound can few =
    let a : AreArrivals (outcomes policy (map Arrive came) s) (length came) = arrivals_count policy came s accepted sound can in
    let all = none_lost policy (map Arrive came) s accepted sound can in
    record { arrivals = omega (arith, a.pushed_or_dropped, few); departures = omega (arith, a.asked, all) }

departures_short : (policy : Policy) (step : Step) (packets : List Packet) (n : ℕ) (s : SourceState) → IsAccepted policy → IsSound policy s → left_by step packets ≡ packets
    → n + (size s.tree - n) ≤ departures_asked (step ∷ []) + size s.tree → IsStepShort policy step packets s (replicate n (Depart None))
departures_short policy step packets n s accepted sound left few =
    let d : AreDepartures (outcomes policy (replicate n (Depart None)) s) n = departures_count policy n None s in
    let m = size_departures policy n s accepted sound in
    record { arrivals = omega (arith, d.pushed, d.dropped, ap length left); departures = omega (arith, d.asked, d.pushed, m, few) }

step_short : (policy : Policy) (step : Step) (packets : List Packet) (s : SourceState) → IsAccepted policy → IsSound policy s → CanMake policy (step_events step packets s) s → IsStepShort policy step packets s (step_events step packets s)
step_short policy (Arrivals k) packets s accepted sound can = arrivals_short policy (Arrivals k) packets (take k packets) s accepted sound can (let l = length-split k packets in omega arith)
step_short policy (Departures k) packets s accepted sound can = departures_short policy (Departures k) packets k s accepted sound refl (omega arith)
step_short policy Rest packets s accepted sound can = arrivals_short policy Rest packets packets s accepted sound can (omega arith)
step_short policy Drain packets s accepted sound can = departures_short policy Drain packets (size s.tree) s accepted sound refl (omega arith)

asked_more : (step : Step) (steps : List Step) → departures_asked (step ∷ steps) ≡ departures_asked (step ∷ []) + departures_asked steps
asked_more (Arrivals k) steps = omega arith
asked_more (Departures k) steps = omega arith
asked_more Rest steps = omega arith
asked_more Drain steps = omega arith

stopped_short : (policy : Policy) (step : Step) (steps : List Step) (packets : List Packet) (s : SourceState) (ending : Option Ending) (c : Course) → IsStepShort policy step packets s (step_events step packets s)
    → IsCourseShort steps (left_by step packets) (after policy (step_events step packets s) s) (outcomes policy c.events (after policy (step_events step packets s) s))
    → IsCourseShort (step ∷ steps) packets s (outcomes policy (stopped_or (step_events step packets s) ending c).events s)
stopped_short policy step steps packets s (Some e) c here rest =
    let a = here.arrivals in let d = here.departures in let m = asked_more step steps in
    record { arrivals = omega arith; departures = omega arith }
stopped_short policy step steps packets s None c here rest =
    let es : List Event = step_events step packets s in
    let os : List Outcome = outcomes policy es s in
    let qs : List Outcome = outcomes policy c.events (after policy es s) in
    let m = asked_more step steps in
    let joined : IsCourseShort (step ∷ steps) packets s (os ++ qs) = record {
      arrivals = omega (arith, here.arrivals, rest.arrivals, pushed_in-append os qs, dropped_in-append os qs);
      departures = omega (arith, here.departures, rest.departures, m, pushed_in-append os qs, popped_in-append os qs, empty_in-append os qs);
    } in
    subst (IsCourseShort (step ∷ steps) packets s) (sym (outcomes-append policy es c.events s)) joined

pub course_short : (policy : Policy) (steps : List Step) (packets : List Packet) (fault : Option FaultAt) (first event : ℕ) (s : SourceState) → IsAccepted policy → IsSound policy s → CanBeSent policy first packets s
    → IsCourseShort steps packets s (outcomes policy (course policy steps packets fault s event).events s)
course_short policy [] packets fault first event s accepted sound can = record { arrivals = omega arith; departures = omega arith }
course_short policy (step ∷ steps) packets fault first event s accepted sound can =
    let made : IsStepMade policy step first packets s = step_made policy step first packets s can in
    stopped_short policy step steps packets s (stop_at step packets fault (event + length (step_events step packets s)))
    (course policy steps (left_by step packets) fault (after policy (step_events step packets s) s) (event + length (step_events step packets s)))
    (step_short policy step packets s accepted sound made.can)
    (course_short policy steps (left_by step packets) fault made.next (event + length (step_events step packets s)) (after policy (step_events step packets s) s) accepted
    (sound_after policy (step_events step packets s) s accepted sound made.can) made.rest)
