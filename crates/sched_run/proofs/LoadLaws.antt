-- The events of a generated load, one after another.
use Rattle.sched_run.proofs.Prelude.{ℕ, arith, None, ◌∙◌, ◌≡◌, refl, sym, List, subst, [], ◌+◌, ap, ◌≤◌, Option, ◌++◌, ◌∷◌, length, false, replicate, ◌<◌, Bool, ◌-◌, suc, true, if◌then◌else◌, zero, add-one, ◌*◌, ◌^◌, Packet, IsAccepted, Policy, StandForOne, Ghosts, held_none, none_lost, Depart, Event, outcomes, after, CanArrive, IsHeldBelow, IsSendable, IsSound, SourceState, Sight, size, HasLoadClasses, first_drawing, load_events, load_next, MakesLoad, departs, load_event, load_run, packet_of, StopsIn, Recordings, AreJoined, Makes, Stage, event_of, arrivals_in, Stops, stage, AreNext, CanBegin, IsFresh, departures_in, packets_in, AreTotals, Drawing, Tally, Totals}
use Rattle.sched_defs.specs.Events.{Arrive}
use Rattle.sched_run.proofs.AgendaLaws.{regiven}
use Rattle.sched_run.proofs.EventCounts.{AreOf, outcomes_of, arrivals_in-append}
use Rattle.sched_run.proofs.JoinedEvents.{stops_first}
use Rattle.sched_run.proofs.MadeEvents.{can_make, length-events, makes_both, next_both, stops_later}
use Rattle.sched_run.proofs.TotalLaws.{IsTallied, Held, held_then, tallied}

-- the drawing after n events
abbrev pub load_after : ℕ → Drawing → Drawing
load_after zero d = d
load_after (suc n) d = load_next (load_after n d)

load_events-later : (n : ℕ) (d : Drawing) → load_after n (load_next d) ≡ load_after (suc n) d
load_events-later zero d = refl
load_events-later (suc n) d = ap (λ (x : Drawing). load_next x) (load_events-later n d)

-- one more event
pub load_events-more : (n : ℕ) (d : Drawing) → load_events (suc n) d ≡ load_events n d ++ load_event (load_after n d) ∷ []
load_events-more zero d = refl
load_events-more (suc n) d =
    ap (λ (es : List Event). load_event d ∷ es) (load_events-more n (load_next d)
    ∙ ap (λ (x : Drawing). load_events n (load_next d) ++ load_event x ∷ []) (load_events-later n d))

-- the first n events and the others
pub load_events-split : (n k : ℕ) (d : Drawing) → load_events (n + k) d ≡ load_events n d ++ load_events k (load_after n d)
load_events-split zero k d = let e : 0 + k ≡ k = omega arith in ap (λ (m : ℕ). load_events m d) e
load_events-split (suc n) k d =
    let e : suc n + k ≡ suc (n + k) = omega arith in
    ap (λ (m : ℕ). load_events m d) e
    ∙ ap (λ (es : List Event). load_event d ∷ es) (load_events-split n k (load_next d)
    ∙ ap (λ (x : Drawing). load_events n (load_next d) ++ load_events k x) (load_events-later n d))

-- ---- one draw
-- the effect of an event on the next packet's number and on the timestamp
pub record IsDrawn (d : Drawing) : Type 0 where
  pub number : (load_next d).number ≡ d.number + arrivals_in (load_event d ∷ [])
  pub moment : (load_next d).moment ≤ d.moment + 2000

pub is_drawn : (d : Drawing) → IsDrawn d
is_drawn d = by_test (departs d.load) refl
  where
    by_test : (t : Bool) → departs d.load ≡ t → IsDrawn d
    by_test true e = record { number = rw e (omega arith); moment = rw e (omega arith) }
    by_test false e = record { number = rw e refl; moment = rw e (omega arith) }

-- the drawn packet can be sent
pub packet_sendable : (policy : Policy) (d : Drawing) → HasLoadClasses policy → d.moment + 2000 ≤ 4611686018427387903 → IsSendable policy (packet_of d)
packet_sendable policy d classes early = record {
  known = record { class = omega (arith, classes); len = omega arith };
  moment = omega (arith, early);
}

pub event_next : (policy : Policy) (d : Drawing) (given : ℕ) → HasLoadClasses policy → d.moment + 2000 ≤ 4611686018427387903 → d.number ≡ given + 1 → AreNext policy given (packets_in (load_event d ∷ []))
event_next policy d given classes early number = by_test (departs d.load) refl
  where
    by_test : (t : Bool) → departs d.load ≡ t → AreNext policy given (packets_in (load_event d ∷ []))
    by_test true e = rw e (record { numbered = tt; sendable = tt })
    by_test false e = rw e (record { numbered = (number, tt); sendable = (packet_sendable policy d classes early, tt) })

-- a drawn packet
pub drawn_packet : (d : Drawing) (p : Packet) → Arrive p ≡ load_event d → p ≡ packet_of d
drawn_packet d p e = by_test (departs d.load) refl
  where
    by_test : (t : Bool) → departs d.load ≡ t → p ≡ packet_of d
    by_test true f = let n : Arrive p ≡ Depart None = e ∙ ap (λ (b : Bool). if b then Depart None else Arrive (packet_of d)) f in cc
    by_test false f = let n : Arrive p ≡ Arrive (packet_of d) = e ∙ ap (λ (b : Bool). if b then Depart None else Arrive (packet_of d)) f in cc

pub drawn_can_arrive : (policy : Policy) (d : Drawing) (p : Packet) (s : SourceState) → Arrive p ≡ load_event d → HasLoadClasses policy → d.moment + 2000 ≤ 4611686018427387903 → IsHeldBelow d.number s.held → CanArrive policy s p
drawn_can_arrive policy d p s e classes early below =
    let sendable = packet_sendable policy d classes early in
    subst (CanArrive policy s) (sym (drawn_packet d p e)) (record { fresh = held_none s.held d.number below; known = sendable.known; moment = sendable.moment })

-- ---- consecutive events
pub length-load : (n : ℕ) (d : Drawing) → length (load_events n d) ≡ n
length-load zero d = refl
length-load (suc n) d = ap (λ (m : ℕ). suc m) (length-load n (load_next d))

pub load_arrivals : (n : ℕ) (d : Drawing) → arrivals_in (load_events n d) ≤ n
load_arrivals n d = omega (arith, length-events (load_events n d), length-load n d)

-- one more event
pub load_arrivals-more : (n : ℕ) (d now : Drawing) → now ≡ load_after n d → arrivals_in (load_events (n + 1) d) ≡ arrivals_in (load_events n d) + arrivals_in (load_event now ∷ [])
load_arrivals-more n d now is =
    ap (λ (m : ℕ). arrivals_in (load_events m d)) (add-one n) ∙ ap arrivals_in (load_events-more n d)
    ∙ arrivals_in-append (load_events n d) (load_event (load_after n d) ∷ [])
    ∙ ap (λ (x : Drawing). arrivals_in (load_events n d) + arrivals_in (load_event x ∷ [])) (sym is)

-- the packets are numbered consecutively, and each can be sent
pub loads_are_next : (policy : Policy) (n : ℕ) (d : Drawing) (given : ℕ) → HasLoadClasses policy → d.moment + 2000 * n ≤ 4611686018427387903 → d.number ≡ given + 1 → AreNext policy given (packets_in (load_events n d))
loads_are_next policy zero d given classes early number = record { numbered = tt; sendable = tt }
loads_are_next policy (suc n) d given classes early number =
    let one = is_drawn d in
    next_both policy (load_event d ∷ []) (load_events n (load_next d)) given (given + arrivals_in (load_event d ∷ [])) refl
    (event_next policy d given classes (omega (arith, early)) number)
    (loads_are_next policy n (load_next d) (given + arrivals_in (load_event d ∷ [])) classes (omega (arith, early, one.moment)) (omega (arith, number, one.number)))

-- the counts have room for one more event
pub record HasLoadRoom (pushes departures : ℕ) (tally : Tally) : Type 0 where
  pub pushes_fit : pushes < 2 ^ 61
  pub departures_fit : departures < 2 ^ 60 + 1000000
  pub events : tally.came + tally.asked ≤ 1000000
  pub dropped : tally.dropped ≤ tally.came

module _ {C U W : Type 0} (S : Ghosts C U) (R : Recordings W) (laws : AreJoined R.records R.cuts) (policy : Policy) (accepted : IsAccepted policy) where
  pub load_room : (n : ℕ) (d : Drawing) (old new : Stage C U W) → n ≤ 1000000 → IsFresh old.tally → S.pushes old.scheduler < 2 ^ 60 → S.departures old.scheduler < 2 ^ 60 → Makes S R policy (load_events n d) old new →
      StandForOne S.stands policy old.scheduler old.under (CanBegin old.given) → HasLoadRoom (S.pushes new.scheduler) (S.departures new.scheduler) new.tally
  load_room n d old new few fresh pushes departures made one =
      let es : List Event = load_events n d in
      let leaves = (made.played one.state one.sound one.stood one.has.held).leaves in
      let counts : AreOf es (outcomes policy es one.state) = outcomes_of policy es one.state in
      let all : arrivals_in es + departures_in es ≡ n = omega (arith, length-events es, length-load n d) in
      record {
        pushes_fit = omega (arith, leaves.pushed, counts.pushed_or_dropped, all, few, pushes);
        departures_fit = omega (arith, leaves.asked, counts.asked, all, few, departures);
        events = omega (arith, made.came, made.asked, fresh.none_came, fresh.none_asked, all, few);
        dropped = omega (arith, made.dropped one.state one.sound one.stood one.has.held, counts.pushed_or_dropped, made.came, fresh.none_came, fresh.none_dropped);
      }

  -- the number of packets queued after the drawn events
  pub load_held : (n : ℕ) (d : Drawing) (old new : Stage C U W) (waiting : ℕ) → n ≤ 1000000 → Makes S R policy (load_events n d) old new → (one : StandForOne S.stands policy old.scheduler old.under (CanBegin old.given)) →
      Held S R laws policy accepted waiting new.scheduler new.under → waiting ≤ 2 ^ 32 + 1000000
  load_held n d old new waiting few made one still =
      let es : List Event = load_events n d in
      let s = one.state in
      let later = held_then S R laws policy accepted es old new waiting s made one.sound one.stood one.has.held still in
      let lost = none_lost policy es s accepted one.sound (can_make policy es (old.given + 1) s made.next.numbered made.next.sendable one.has.held) in
      let counts : AreOf es (outcomes policy es s) = outcomes_of policy es s in
      omega (arith, later, lost, one.has.few, counts.pushed_or_dropped, length-events es, length-load n d, few)

  -- one more event
  pub load_goes : (n : ℕ) (d now : Drawing) (old mid : Stage C U W) (c : C) (u : U) (w : W) (written : Option (List ℕ)) (given given' : ℕ) (tally : Tally) (sight : Sight) → now ≡ load_after n d → mid.given ≡ old.given + arrivals_in (load_events n d) →
      Makes S R policy (load_events n d) old mid → Makes S R policy (load_event now ∷ []) mid (stage c u w written given tally sight) → Makes S R policy (load_events (n + 1) d) old (stage c u w written given' tally sight)
  load_goes n d now old mid c u w written given given' tally sight is at made one =
      let whole : load_events n d ++ load_event now ∷ [] ≡ load_events (n + 1) d =
      ap (λ (x : Drawing). load_events n d ++ load_event x ∷ []) is ∙ sym (load_events-more n d) ∙ ap (λ (m : ℕ). load_events m d) (sym (add-one n)) in
      regiven S R laws policy (load_events (n + 1) d) old c u w written given given' tally sight
      (subst (λ (es : List Event). Makes S R policy es old (stage c u w written given tally sight)) whole
      (makes_both S R laws policy accepted (load_events n d) (load_event now ∷ []) old mid (stage c u w written given tally sight) at made one))

  -- one more event stops, and others were to follow
  pub load_stops : (n count : ℕ) (d now : Drawing) (old mid : Stage C U W) (c : C) (u : U) (written : Option (List ℕ)) → n < count → HasLoadClasses policy → d.moment + 2000 * count ≤ 4611686018427387903 → d.number ≡ old.given + 1 →
      now ≡ load_after n d → mid.given ≡ old.given + arrivals_in (load_events n d) → Makes S R policy (load_events n d) old mid → Stops S R policy (load_event now ∷ []) mid c u written → Stops S R policy (load_events count d) old c u written
  load_stops n count d now old mid c u written below classes early number is at made stop =
      let first : List Event = load_events n d ++ load_event now ∷ [] in
      let rest : List Event = load_events (count - suc n) (load_after (suc n) d) in
      let front : load_events (suc n) d ≡ first = load_events-more n d ∙ ap (λ (x : Drawing). load_events n d ++ load_event x ∷ []) (sym is) in
      let total : suc n + (count - suc n) ≡ count = omega (arith, below) in
      let whole : first ++ rest ≡ load_events count d =
      ap (λ (es : List Event). es ++ rest) (sym front) ∙ sym (load_events-split (suc n) (count - suc n) d) ∙ ap (λ (m : ℕ). load_events m d) total in
      let one = stops_later S R laws policy accepted (load_events n d) (load_event now ∷ []) old mid c u written at made stop in
      record {
        next = loads_are_next policy count d old.given classes early number;
        stopped = λ s sound stood held. subst (λ (es : List Event). StopsIn S R policy (event_of old.tally) es s old.scheduler old.under old.recorder old.written c u written) whole
            (stops_first S R laws policy (event_of old.tally) first rest s old.scheduler old.under c u old.recorder old.written written (one.stopped s sound stood held));
      }

-- ---- a load and its drain
module _ {C U W : Type 0} (S : Ghosts C U) (R : Recordings W) (laws : AreJoined R.records R.cuts) (policy : Policy) (accepted : IsAccepted policy) (seed count : ℕ) (old : Stage C U W) (fresh : IsFresh old.tally) where
  abbrev drawings : List Event
  drawings = load_events count (first_drawing seed)

  one_first : event_of old.tally ≡ 1
  one_first = omega (arith, fresh.none_came, fresh.none_asked)

  -- the drawn events stopped
  pub load_stops_drawing : (c : C) (u : U) (written : Option (List ℕ)) → Stops S R policy (load_events count (first_drawing seed)) old c u written → (s : SourceState) → IsSound policy s → S.stands old.scheduler old.under s → IsHeldBelow (old.given + 1) s.held →
      StopsIn S R policy 1 (load_run policy seed count s) s old.scheduler old.under old.recorder old.written c u written
  load_stops_drawing c u written stop s sound stood below =
      subst (λ (n : ℕ). StopsIn S R policy n (load_run policy seed count s) s old.scheduler old.under old.recorder old.written c u written) one_first
      (stops_first S R laws policy (event_of old.tally) drawings (replicate (size (after policy drawings s).tree) (Depart None)) s old.scheduler old.under c u old.recorder old.written written (stop.stopped s sound stood below))

  module _ (mid : Stage C U W) (waiting : ℕ) (given : mid.given ≡ old.given + arrivals_in (load_events count (first_drawing seed))) (made : Makes S R policy (load_events count (first_drawing seed)) old mid) (still : Held S R laws policy accepted waiting mid.scheduler mid.under) where
    drains : (s : SourceState) → IsSound policy s → S.stands old.scheduler old.under s → IsHeldBelow (old.given + 1) s.held → drawings ++ replicate waiting (Depart None) ≡ load_run policy seed count s
    drains s sound stood below = ap (λ (n : ℕ). drawings ++ replicate n (Depart None)) (held_then S R laws policy accepted drawings old mid waiting s made sound stood below still)

    -- the drain stopped
    pub load_stops_draining : (c : C) (u : U) (written : Option (List ℕ)) → Stops S R policy (replicate waiting (Depart None)) mid c u written → (s : SourceState) → IsSound policy s → S.stands old.scheduler old.under s → IsHeldBelow (old.given + 1) s.held →
        StopsIn S R policy 1 (load_run policy seed count s) s old.scheduler old.under old.recorder old.written c u written
    load_stops_draining c u written stop s sound stood below =
        let all = stops_later S R laws policy accepted drawings (replicate waiting (Depart None)) old mid c u written given made stop in
        subst (λ (n : ℕ). StopsIn S R policy n (load_run policy seed count s) s old.scheduler old.under old.recorder old.written c u written) one_first
        (subst (λ (es : List Event). StopsIn S R policy (event_of old.tally) es s old.scheduler old.under old.recorder old.written c u written) (drains s sound stood below) (all.stopped s sound stood below))

    -- the whole load was made
    pub load_done : (new : Stage C U W) (first held version : ℕ) (t : Totals) → Makes S R policy (replicate waiting (Depart None)) mid new → Held S R laws policy accepted first old.scheduler old.under → Held S R laws policy accepted held new.scheduler new.under →
        AreTotals new.tally first held version t → version ≡ policy.version → (s : SourceState) → IsSound policy s → S.stands old.scheduler old.under s → IsHeldBelow (old.given + 1) s.held →
        MakesLoad S R policy seed count s old.scheduler old.under old.recorder old.written new.scheduler new.under new.recorder new.written t
    load_done new first held version t more begun last totals own s sound stood below =
        let run : List Event = load_run policy seed count s in
        let all : Makes S R policy run old new = subst (λ (es : List Event). Makes S R policy es old new) (drains s sound stood below)
        (makes_both S R laws policy accepted drawings (replicate waiting (Depart None)) old mid new given made more) in
        let counts : IsTallied policy (outcomes policy run s) (size (after policy run s).tree) t = tallied S R laws policy accepted run old new first held version t s fresh all sound stood below (begun s sound stood)
        (held_then S R laws policy accepted run old new held s all sound stood below last) totals own in
        let played = all.played s sound stood below in
        record {
          leaves = played.leaves;
          recorded = subst (λ (n : ℕ). R.records old.recorder old.written policy n (outcomes policy run s) new.recorder new.written) one_first played.recorded;
          pushed = sym counts.same_pushed;
          popped = sym counts.same_popped;
          empty = sym counts.same_empty;
        }
