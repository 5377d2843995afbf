-- The part of an agenda that was made, and the part still to come.
use Rattle.sched_run.proofs.Prelude.{ℕ, arith, None, ◌∙◌, ◌≡◌, refl, sym, List, subst, [], ◌+◌, ap, Some, ◌≤◌, Option, ◌++◌, append-nil, false, Bool, append_assoc, ◌^◌, IfSome, IsAccepted, Policy, StandForOne, Ghosts, none_lost, after-append, Event, outcomes, after, empty_in, IsHeldBelow, Left, Course, behind, IsSound, SourceState, Ending, Sight, size, Courses, IsCourse, Agenda, CoursesAmid, CoursesFirst, Recordings, AreJoined, Makes, Stage, event_of, arrivals_in, FromEach, stage, CanBegin, IsFresh, HasRoom, IsReady, StopsAmid, AreFirst, Tally}
use Rattle.sched_run.proofs.MadeEvents.{Stands, can_make, stands_after, makes_none, makes_both, makes_then_last, stops_here, stops_none, stops_later, stops_at_last, stops_then_last}
use Rattle.sched_run.proofs.PacketsInTurn.{room_after}
use Rattle.sched_run.proofs.EventCounts.{AreOf, outcomes_of, outcomes_both}

-- The agenda over the packets left before is these events, followed by the rest over the packets
-- left now.
pub record IsBehind (policy : Policy) (whole rest : Agenda) (events : List Event) (before : Left) (now : Option Left) (s : SourceState) (first next : ℕ) : Type 0 where
  pub left : Left
  pub is : now ≡ Some left
  pub joined : whole before s first ≡ behind events (rest left (after policy events s) next)

-- A part of the agenda was made, and the rest is still to come. Of the `all` departures that may
-- find no packet, at least `spare` are unused.
pub record HasRun {C U W : Type 0} (S : Ghosts C U) (R : Recordings W) (policy : Policy) (whole rest : Agenda) (all spare : ℕ) (before now : Option Left) (old new : Stage C U W) : Type 0 where
  pub events : List Event
  pub made : Makes S R policy events old new
  pub few : FromEach S policy old (λ s. empty_in (outcomes policy events s) + spare ≤ all)
  pub told : IfSome before (λ l. FromEach S policy old (λ s. IsBehind policy whole rest events l now s (event_of old.tally) (event_of new.tally)))

behind-append : (es fs : List Event) (c : Course) → behind es (behind fs c) ≡ behind (es ++ fs) c
behind-append es fs c = ap (λ (events : List Event). record { events = events; ending = c.ending }) (sym (append_assoc es fs c.events))

module _ {C U W : Type 0} (S : Ghosts C U) (R : Recordings W) (laws : AreJoined R.records R.cuts) (policy : Policy) where
  pub run_none : (whole : Agenda) (all : ℕ) (a : Option Left) (c : C) (u : U) (w : W) (written : Option (List ℕ)) (given : ℕ) (tally : Tally) (sight : Sight) → HasRun S R policy whole whole all all a a (stage c u w written given tally sight) (stage c u w written given tally sight)
  run_none whole all a c u w written given tally sight = record {
    events = [];
    made = makes_none S R laws policy c u w written given given tally sight;
    few = λ s sound stood below. omega arith;
    told = by_left a;
  }
    where
      by_left : (a : Option Left) → IfSome a (λ l. FromEach S policy (stage c u w written given tally sight) (λ s. IsBehind policy whole whole [] l a s (event_of tally) (event_of tally)))
      by_left None = tt
      by_left (Some l) = λ s sound stood below. record { left = l; is = refl; joined = refl }

  pub regiven : (es : List Event) (old : Stage C U W) (c : C) (u : U) (w : W) (written : Option (List ℕ)) (given given' : ℕ) (tally : Tally) (sight : Sight) → Makes S R policy es old (stage c u w written given tally sight) → Makes S R policy es old (stage c u w written given' tally sight)
  regiven es old c u w written given given' tally sight made = record { next = made.next; came = made.came; asked = made.asked; dropped = made.dropped; played = made.played; shown = made.shown }

  -- nothing is still to come
  pub run_over : (whole rest : Agenda) (all spare : ℕ) (a b : Option Left) (e : Ending) (old : Stage C U W) (c : C) (u : U) (w : W) (written : Option (List ℕ)) (given given' : ℕ) (tally : Tally) (sight : Sight) →
      HasRun S R policy whole rest all spare a b old (stage c u w written given tally sight) → IfSome b (λ l. (s : SourceState) → IsCourse [] e (rest l s (event_of tally))) → Courses S R policy whole e a old (stage c u w written given' tally sight)
  run_over whole rest all spare a b e old c u w written given given' tally sight run ends = record {
    events = run.events;
    made = regiven run.events old c u w written given given' tally sight run.made;
    told = by_left a run.told;
  }
    where
      by_left : (a : Option Left) → IfSome a (λ l. FromEach S policy old (λ s. IsBehind policy whole rest run.events l b s (event_of old.tally) (event_of tally)))
          → IfSome a (λ l. FromEach S policy old (λ s. IsCourse run.events e (whole l s (event_of old.tally))))
      by_left None told = tt
      by_left (Some l) told = λ s sound stood below.
          let w = told s sound stood below in
          let last : IsCourse [] e (rest w.left (after policy run.events s) (event_of tally)) =
          subst (λ (o : Option Left). IfSome o (λ l. (s : SourceState) → IsCourse [] e (rest l s (event_of tally)))) w.is ends (after policy run.events s) in
          subst (IsCourse run.events e) (sym w.joined) (record { are = sym (append-nil run.events) ∙ ap (λ (es : List Event). run.events ++ es) last.are; ends = last.ends })

  -- the run stops here, and a prefix of its record is written
  pub run_stops_amid : (whole rest : Agenda) (all spare : ℕ) (a b : Option Left) (old : Stage C U W) (c : C) (u : U) (w : W) (written : Option (List ℕ)) (given : ℕ) (tally : Tally) (sight : Sight) →
      HasRun S R policy whole rest all spare a b old (stage c u w written given tally sight) → StopsAmid S R policy (λ l s. (whole l s (event_of old.tally)).events) a old c u written
  run_stops_amid whole rest all spare a b old c u w written given tally sight run = record {
    events = run.events;
    stop = stops_here S R laws policy run.events old c u w written run.made.next run.made.played;
    first = by_left a run.told;
  }
    where
      by_left : (a : Option Left) → IfSome a (λ l. FromEach S policy old (λ s. IsBehind policy whole rest run.events l b s (event_of old.tally) (event_of tally)))
          → IfSome a (λ l. FromEach S policy old (λ s. AreFirst run.events (whole l s (event_of old.tally)).events))
      by_left None told = tt
      by_left (Some l) told = λ s sound stood below.
          let w = told s sound stood below in
          ((rest w.left (after policy run.events s) (event_of tally)).events, sym (ap (λ (z : Course). z.events) w.joined))

module _ {C U W : Type 0} (S : Ghosts C U) (R : Recordings W) (laws : AreJoined R.records R.cuts) (policy : Policy) (accepted : IsAccepted policy) (whole : Agenda) (all : ℕ) where
  module _ (next : Agenda) (spare : ℕ) (a b : Option Left) (old mid : Stage C U W) (given : mid.given + old.tally.came ≡ old.given + mid.tally.came) (run : HasRun S R policy whole next all spare a b old mid) where
    mid_given : mid.given ≡ old.given + arrivals_in run.events
    mid_given = omega (arith, given, run.made.came)

    mid_at : (s : SourceState) → IsSound policy s → S.stands old.scheduler old.under s → IsHeldBelow (old.given + 1) s.held → Stands S policy mid.scheduler mid.under mid.given (after policy run.events s)
    mid_at s sound stood below = stands_after S R laws policy accepted run.events old mid mid.given s run.made mid_given (record { sound = sound; stood = stood; below = below })

    -- more of it was made
    pub run_goes : (rest : Agenda) (left : ℕ) (c : Option Left) (new : Stage C U W) → HasRun S R policy next rest spare left b c mid new → HasRun S R policy whole rest all left a c old new
    run_goes rest left c new more = record {
      events = run.events ++ more.events;
      made = makes_both S R laws policy accepted run.events more.events old mid new mid_given run.made more.made;
      few = λ s sound stood below.
          let at = mid_at s sound stood below in
          omega (
            arith,
            run.few s sound stood below,
            more.few (after policy run.events s) at.sound at.stood at.below,
            (outcomes_both policy run.events more.events s).empty,
          );
      told = by_left a run.told;
    }
      where
        by_left : (a : Option Left) → IfSome a (λ l. FromEach S policy old (λ s. IsBehind policy whole next run.events l b s (event_of old.tally) (event_of mid.tally)))
            → IfSome a (λ l. FromEach S policy old (λ s. IsBehind policy whole rest (run.events ++ more.events) l c s (event_of old.tally) (event_of new.tally)))
        by_left None told = tt
        by_left (Some l) told = λ s sound stood below.
            let w = told s sound stood below in
            let at = mid_at s sound stood below in
            let s' : SourceState = after policy run.events s in
            let then : IsBehind policy next rest more.events w.left c s' (event_of mid.tally) (event_of new.tally) =
            subst (λ (o : Option Left). IfSome o (λ l. FromEach S policy mid (λ s. IsBehind policy next rest more.events l c s (event_of mid.tally) (event_of new.tally)))) w.is more.told s' at.sound at.stood at.below in
            record {
              left = then.left;
              is = then.is;
              joined = w.joined ∙ ap (behind run.events) then.joined
                  ∙ behind-append run.events more.events (rest then.left (after policy more.events s') (event_of new.tally))
                  ∙ ap (λ (t : SourceState). behind (run.events ++ more.events) (rest then.left t (event_of new.tally))) (sym (after-append policy run.events more.events s));
            }

    -- the rest was made
    pub run_ends : (e : Ending) (new : Stage C U W) → Courses S R policy next e b mid new → Courses S R policy whole e a old new
    run_ends e new more = record {
      events = run.events ++ more.events;
      made = makes_both S R laws policy accepted run.events more.events old mid new mid_given run.made more.made;
      told = by_left a run.told;
    }
      where
        by_left : (a : Option Left) → IfSome a (λ l. FromEach S policy old (λ s. IsBehind policy whole next run.events l b s (event_of old.tally) (event_of mid.tally)))
            → IfSome a (λ l. FromEach S policy old (λ s. IsCourse (run.events ++ more.events) e (whole l s (event_of old.tally))))
        by_left None told = tt
        by_left (Some l) told = λ s sound stood below.
            let w = told s sound stood below in
            let at = mid_at s sound stood below in
            let s' : SourceState = after policy run.events s in
            let last : IsCourse more.events e (next w.left s' (event_of mid.tally)) =
            subst (λ (o : Option Left). IfSome o (λ l. FromEach S policy mid (λ s. IsCourse more.events e (next l s (event_of mid.tally))))) w.is more.told s' at.sound at.stood at.below in
            subst (IsCourse (run.events ++ more.events) e) (sym w.joined) (record { are = ap (λ (x : List Event). run.events ++ x) last.are; ends = last.ends })

    -- the events made, followed by a prefix of the rest, are a prefix of all
    first_behind : (a : Option Left) (events : List Event) → IfSome a (λ l. FromEach S policy old (λ s. IsBehind policy whole next run.events l b s (event_of old.tally) (event_of mid.tally)))
        → IfSome b (λ l. FromEach S policy mid (λ s. AreFirst events (next l s (event_of mid.tally)).events))
        → IfSome a (λ l. FromEach S policy old (λ s. AreFirst (run.events ++ events) (whole l s (event_of old.tally)).events))
    first_behind None events told rest = tt
    first_behind (Some l) events told rest = λ s sound stood below.
        let w = told s sound stood below in
        let at = mid_at s sound stood below in
        let s' : SourceState = after policy run.events s in
        let first : AreFirst events (next w.left s' (event_of mid.tally)).events =
        subst (λ (o : Option Left). IfSome o (λ l. FromEach S policy mid (λ s. AreFirst events (next l s (event_of mid.tally)).events))) w.is rest s' at.sound at.stood at.below in (
          first.0,
          append_assoc run.events events first.0 ∙ ap (λ (x : List Event). run.events ++ x) first.1 ∙ sym (ap (λ (z : Course). z.events) w.joined),
        )

    -- the rest stopped
    pub run_stops : (c : C) (u : U) (written : Option (List ℕ)) → StopsAmid S R policy (λ l s. (next l s (event_of mid.tally)).events) b mid c u written
        → StopsAmid S R policy (λ l s. (whole l s (event_of old.tally)).events) a old c u written
    run_stops c u written amid = record {
      events = run.events ++ amid.events;
      stop = stops_later S R laws policy accepted run.events amid.events old mid c u written mid_given run.made amid.stop;
      first = first_behind a amid.events run.told amid.first;
    }

    -- the rest stopped at its last event
    pub run_breaks : (over : W → Bool) (c : C) (u : U) (written : Option (List ℕ)) → CoursesAmid S R over policy next b mid c u written → CoursesAmid S R over policy whole a old c u written
    run_breaks over c u written more = record {
      events = run.events ++ more.events;
      stop = stops_then_last S R laws policy accepted over run.events more.events old mid c u written mid_given run.made more.stop;
      first = first_behind a more.events run.told more.first;
    }

    -- the run stopped between two events
    pub run_stops_going : (over : W → Bool) → over mid.recorder ≡ false → CoursesAmid S R over policy whole a old mid.scheduler mid.under mid.written
    unfolding run_stops_amid
    run_stops_going over going =
        let stopped : StopsAmid S R policy (λ l s. (whole l s (event_of old.tally)).events) a old mid.scheduler mid.under mid.written =
        run_stops_amid S R laws policy whole next all spare a b old mid.scheduler mid.under mid.recorder mid.written mid.given mid.tally mid.sight run in
        record {
          events = run.events;
          stop = record {
            before = run.events;
            last = [];
            are = append-nil run.events;
            few = omega arith;
            amid = mid;
            made = run.made;
            given = mid_given;
            going = going;
            stop = stops_none S R laws policy mid.scheduler mid.under mid.recorder mid.written mid.given mid.tally mid.sight;
          };
          first = stopped.first;
        }

    -- nothing more can be recorded in the rest
    pub run_first : (over : W → Bool) (new : Stage C U W) → CoursesFirst S R over policy next b mid new → CoursesFirst S R over policy whole a old new
    run_first over new more = record {
      events = run.events ++ more.events;
      made = makes_then_last S R laws policy accepted over run.events more.events old mid new mid_given run.made more.made;
      first = first_behind a more.events run.told more.first;
    }

  -- a run that stopped at its last event is a run that stopped
  pub stops_amid : (over : W → Bool) (before : Option Left) (old : Stage C U W) (c : C) (u : U) (written : Option (List ℕ)) → CoursesAmid S R over policy whole before old c u written
      → StopsAmid S R policy (λ l s. (whole l s (event_of old.tally)).events) before old c u written
  stops_amid over before old c u written to = record { events = to.events; stop = stops_at_last S R laws policy accepted over to.events old c u written to.stop; first = to.first }

  -- ---- the conditions of the rest
  module _ (rest : Agenda) (spare : ℕ) (a b : Option Left) (old mid : Stage C U W) (given : mid.given + old.tally.came ≡ old.given + mid.tally.came) (few : mid.given ≤ 4294967295)
      (fresh : IsFresh old.tally) (short : all ≤ 4194304)
      (one : StandForOne S.stands policy old.scheduler old.under (CanBegin old.given)) (run : HasRun S R policy whole rest all spare a b old mid) where
    bounds : mid.tally.asked + size (after policy run.events one.state).tree ≤ 2 ^ 34
    bounds =
        let held = none_lost policy run.events one.state accepted one.sound (can_make policy run.events (old.given + 1) one.state run.made.next.numbered run.made.next.sendable one.has.held) in
        let counts : AreOf run.events (outcomes policy run.events one.state) = outcomes_of policy run.events one.state in
        omega (
          arith,
          held,
          counts.pushed_or_dropped,
          counts.asked,
          run.few one.state one.sound one.stood one.has.held,
          run.made.came,
          run.made.asked,
          given,
          few,
          fresh.none_came,
          fresh.none_asked,
          short,
          one.has.few,
        )

    pub run_ready : StandForOne S.stands policy mid.scheduler mid.under (IsReady mid.given mid.tally)
    run_ready =
        let at = stands_after S R laws policy accepted run.events old mid mid.given one.state run.made (omega (arith, given, run.made.came)) (record { sound = one.sound; stood = one.stood; below = one.has.held }) in
        record { state = after policy run.events one.state; sound = at.sound; stood = at.stood; has = record { held = at.below; few = bounds } }

    pub run_room : HasRoom (S.pushes old.scheduler) (S.departures old.scheduler) old.given old.tally → HasRoom (S.pushes mid.scheduler) (S.departures mid.scheduler) mid.given mid.tally
    run_room room = room_after S R laws policy accepted run.events old mid given few (omega (arith, bounds, run.made.asked)) run.made
        (record { state = one.state; sound = one.sound; stood = one.stood; has = one.has.held }) room
