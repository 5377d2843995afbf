-- The course of a script, step by step.
use Rattle.sched_run.proofs.Prelude.{get_or, suc, zero, ◌≤◌, ℕ, arith, None, ◌∙◌, ◌≡◌, refl, sym, List, subst, [], ◌+◌, ap, Some, Option, ◌++◌, ◌∷◌, length, append-nil, append_assoc, map, IfSome, counts_of, count_of, Policy, Ghosts, Event, after, Left, Course, Step, behind, left_by, step_events, stop_at, at_end, course, stopped_or, SourceState, Ending, Courses, IsCourse, script_agenda, Recordings, Stage, event_of, FromEach, StopsAmid, AreFirst, Turns, IsTurn}
use Rattle.events_core.specs.declared.step.Step as line
use Rattle.events_core.specs.declared.step.Step.TheVariants as line_step
use Rattle.sched_run.specs.Steps.{step_of, asked_by}
use Rattle.sched_run.proofs.MadeEvents.{length-events}
use Rattle.sched_run.proofs.AgendaLaws.{IsBehind, HasRun}

-- ---- the course of a step and those after it
module _ (policy : Policy) (step : Step) (steps : List Step) (l : Left) (s : SourceState) (event : ℕ) where
  abbrev own : List Event
  own = step_events step l.packets s

  abbrev others : List Event → ℕ → Course
  others es n = course policy steps (left_by step l.packets) l.fault (after policy es s) n

  goes_plain : stop_at step l.packets l.fault (event + length own) ≡ None → course policy (step ∷ steps) l.packets l.fault s event ≡ behind own (others own (event + length own))
  goes_plain e = ap (λ (o : Option Ending). stopped_or own o (others own (event + length own))) e

  ends_plain : (x : Ending) → stop_at step l.packets l.fault (event + length own) ≡ Some x → course policy (step ∷ steps) l.packets l.fault s event ≡ record { events = own; ending = x }
  ends_plain x e = ap (λ (o : Option Ending). stopped_or own o (others own (event + length own))) e

  at_own : (es : List Event) (now : ℕ) → es ≡ own → now ≡ event + length es → now ≡ event + length own
  at_own es now are number = number ∙ ap (λ (x : List Event). event + length x) are

  -- the step was made, and the others follow
  pub course_goes : (es : List Event) (now : ℕ) → es ≡ own → now ≡ event + length es → None ≡ stop_at step l.packets l.fault now →
      course policy (step ∷ steps) l.packets l.fault s event ≡ behind es (others es now)
  course_goes es now are number ends =
      let same = at_own es now are number in
      let stop : stop_at step l.packets l.fault (event + length own) ≡ None = subst (λ (n : ℕ). stop_at step l.packets l.fault n ≡ None) same (sym ends) in
      subst (λ (n : ℕ). course policy (step ∷ steps) l.packets l.fault s event ≡ behind es (others es n)) (sym same)
      (subst (λ (x : List Event). course policy (step ∷ steps) l.packets l.fault s event ≡ behind x (others x (event + length own))) (sym are) (goes_plain stop))

  -- the step was the last
  pub course_ends : (es : List Event) (now : ℕ) (e : Ending) → es ≡ own → now ≡ event + length es → Some e ≡ stop_at step l.packets l.fault now →
      IsCourse es e (course policy (step ∷ steps) l.packets l.fault s event)
  course_ends es now e are number ends =
      let same = at_own es now are number in
      let some = subst (λ (n : ℕ). Some e ≡ stop_at step l.packets l.fault n) same ends in
      subst (IsCourse es e) (sym (ends_plain e (sym some))) (record { are = are; ends = refl })

  -- a course begins with the events of its first step
  pub course_begins : (more : List Event) × (own ++ more ≡ (course policy (step ∷ steps) l.packets l.fault s event).events)
  course_begins = by_stop (stop_at step l.packets l.fault (event + length own))
    where
      by_stop : (o : Option Ending) → (more : List Event) × (own ++ more ≡ (stopped_or own o (others own (event + length own))).events)
      by_stop None = ((others own (event + length own)).events, refl)
      by_stop (Some x) = ([], append-nil own)

asked_is : (l : line.Step) → asked_by (step_of l) ≡ count_of l
asked_is (line_step.Arrive n) = refl
asked_is (line_step.Depart n) = refl
asked_is line_step.Rest = refl
asked_is line_step.Drain = refl

-- no step asks for more than all of them
pub short_step : (steps : List line.Step) (i most : ℕ) → counts_of steps ≤ most → asked_by (step_of (get_or steps i (line_step.Arrive 0))) ≤ most
short_step [] i most few = omega arith
short_step (s ∷ steps) zero most few = omega (arith, few, asked_is s)
short_step (s ∷ steps) (suc i) most few = short_step steps i most (omega (arith, few))

module _ {C U W : Type 0} (S : Ghosts C U) (R : Recordings W) (policy : Policy) (step : line.Step) (rest : List line.Step) (a : Option Left) (old : Stage C U W) where
  -- the events of a step and the number of the next one
  numbered : (c : Option Left) (ending : Option Ending) (new : Stage C U W) (turns : Turns S R policy (step_of step) ending a c old new) → event_of new.tally ≡ event_of old.tally + length turns.events
  numbered c ending new turns = omega (arith, turns.made.came, turns.made.asked, length-events turns.events)

  -- the step was made, and the others are still to come
  pub step_goes : (c : Option Left) (new : Stage C U W) → Turns S R policy (step_of step) None a c old new
      → HasRun S R policy (script_agenda policy (step ∷ rest)) (script_agenda policy rest) (counts_of (step ∷ rest)) (counts_of rest) a c old new
  step_goes c new turns = record {
    events = turns.events;
    made = turns.made;
    few = λ s sound stood below. omega (arith, turns.few s sound stood below, asked_is step);
    told = by_left a turns.told;
  }
    where
      by_left : (a : Option Left) → IfSome a (λ l. FromEach S policy old (λ s. IsTurn (step_of step) None (event_of new.tally) turns.events l c s))
          → IfSome a (λ l. FromEach S policy old (λ s. IsBehind policy (script_agenda policy (step ∷ rest)) (script_agenda policy rest) turns.events l c s (event_of old.tally) (event_of new.tally)))
      by_left None told = tt
      by_left (Some l) told = λ s sound stood below.
          let turn = told s sound stood below in
          record {
            left = record { packets = left_by (step_of step) l.packets; fault = l.fault };
            is = turn.rest;
            joined = course_goes policy (step_of step) (map step_of rest) l s (event_of old.tally) turns.events (event_of new.tally) turn.are (numbered c None new turns) turn.ends;
          }

  -- the step was the last
  pub step_ends : (c : Option Left) (e : Ending) (new : Stage C U W) → Turns S R policy (step_of step) (Some e) a c old new → Courses S R policy (script_agenda policy (step ∷ rest)) e a old new
  step_ends c e new turns = record { events = turns.events; made = turns.made; told = by_left a turns.told }
    where
      by_left : (a : Option Left) → IfSome a (λ l. FromEach S policy old (λ s. IsTurn (step_of step) (Some e) (event_of new.tally) turns.events l c s))
          → IfSome a (λ l. FromEach S policy old (λ s. IsCourse turns.events e (script_agenda policy (step ∷ rest) l s (event_of old.tally))))
      by_left None told = tt
      by_left (Some l) told = λ s sound stood below.
          let turn = told s sound stood below in
          course_ends policy (step_of step) (map step_of rest) l s (event_of old.tally) turns.events (event_of new.tally) e turn.are (numbered c (Some e) new turns) turn.ends

  -- the step stopped
  pub step_stops : (c : C) (u : U) (written : Option (List ℕ)) → StopsAmid S R policy (λ l s. step_events (step_of step) l.packets s) a old c u written
      → StopsAmid S R policy (λ l s. (script_agenda policy (step ∷ rest) l s (event_of old.tally)).events) a old c u written
  step_stops c u written amid = record { events = amid.events; stop = amid.stop; first = by_left a amid.first }
    where
      by_left : (a : Option Left) → IfSome a (λ l. FromEach S policy old (λ s. AreFirst amid.events (step_events (step_of step) l.packets s)))
          → IfSome a (λ l. FromEach S policy old (λ s. AreFirst amid.events (script_agenda policy (step ∷ rest) l s (event_of old.tally)).events))
      by_left None first = tt
      by_left (Some l) first = λ s sound stood below.
          let some = first s sound stood below in
          let begins = course_begins policy (step_of step) (map step_of rest) l s (event_of old.tally) in
          (some.0 ++ begins.0, sym (append_assoc amid.events some.0 begins.0) ∙ ap (λ (x : List Event). x ++ begins.0) some.1 ∙ begins.1)

-- no step is left, and the ending is that of the packets left
pub no_step : (policy : Policy) (e : Ending) (event : ℕ) (o : Option Left) → IfSome o (λ l. e ≡ at_end l.fault l.packets) → IfSome o (λ l. (s : SourceState) → IsCourse [] e (script_agenda policy [] l s event))
no_step policy e event None ends = tt
no_step policy e event (Some l) ends = λ s. record { are = refl; ends = ends }
