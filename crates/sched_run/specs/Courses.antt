-- The results of a run: its events, its ending and its report.
use Rattle.std.specs.Prelude.{◌≡◌, ℕ, ◌+◌, Bool, Option, Some, None, List, map, IfSome}
use Rattle.outside_core.specs.Written.{Appended}
use Rattle.outside_core.specs.Text.{IsCut}
use Rattle.policy_defs.specs.Policy.{Policy}
use Rattle.sched_defs.specs.SourceState.{SourceState}
use Rattle.sched_defs.specs.Events.{Event}
use Rattle.sched_defs.specs.Script.{Course, course}
use Rattle.sched_defs.specs.Numbered.{IsHeldBelow}
use Rattle.sched_defs.specs.Report.{course_report}
use Rattle.sched_core.specs.declared.scheduler.Scheduler.{Ghosts}
use Rattle.sched_core.specs.Standing.{ForEachState}
use Rattle.sched_run.specs.Played.{HasMade, HasMadeSome}
use Rattle.events_core.specs.declared.step.Step as line
use Rattle.sched_defs.specs.declared.ending.Ending.{Ending}
use Rattle.sched_defs.specs.Packets.{Left}
use Rattle.sched_defs.specs.Link.{link_course}
use Rattle.sched_defs.specs.Pace.{paced_course}
use Rattle.sched_defs.specs.declared.rate.LinkRate.{LinkRate}
use Rattle.sched_run.specs.declared.pace.Pace.{Pace}
use Rattle.sched_run.specs.Steps.{step_of, pace_of}
use Rattle.sched_run.specs.Stages.{Stage, event_of, FromEach, Makes, MakesLast, StopsLast}
use Rattle.sched_run.specs.Turns.{AreFirst}
use Rattle.sched_run.specs.Recording.{Recordings}

-- an agenda: the course over the packets left, from a state, if the next event has this number
abbrev pub Agenda : Type 0
Agenda = Left → SourceState → ℕ → Course

-- the course of the steps of a script
abbrev pub script_agenda : Policy → List line.Step → Left → SourceState → ℕ → Course
script_agenda policy steps left s event = course policy (map step_of steps) left.packets left.fault s event

-- the course of a link that is free from this timestamp on
abbrev pub link_agenda : Policy → LinkRate → ℕ → Left → SourceState → ℕ → Course
link_agenda policy rate free left s event = link_course policy rate left.packets left.fault s free

-- the course that a pace gives
abbrev pub course_of : Policy → Pace → Left → SourceState → ℕ → Course
course_of policy pace left s event = paced_course policy (pace_of pace) left.packets left.fault s event

-- the events of a course and its ending
pub record IsCourse (events : List Event) (ending : Ending) (run : Course) : Type 0 where
  pub are : events ≡ run.events
  pub ends : ending ≡ run.ending

-- all events of the agenda were made over the packets left
pub record Courses {C U W : Type 0} (S : Ghosts C U) (R : Recordings W) (policy : Policy) (agenda : Agenda) (ending : Ending) (before : Option Left) (old new : Stage C U W) : Type 0 where
  pub events : List Event
  pub made : Makes S R policy events old new
  pub told : IfSome before (λ l. FromEach S policy old (λ s. IsCourse events ending (agenda l s (event_of old.tally))))

-- a prefix of the agenda's events was made; after its last event nothing more can be recorded
pub record CoursesFirst {C U W : Type 0} (S : Ghosts C U) (R : Recordings W) (over : W → Bool) (policy : Policy) (agenda : Agenda) (before : Option Left) (old new : Stage C U W) : Type 0 where
  pub events : List Event
  pub made : MakesLast S R over policy events old new
  pub first : IfSome before (λ l. FromEach S policy old (λ s. AreFirst events (agenda l s (event_of old.tally)).events))

-- either all of them were made and the run ended this way, or a prefix because nothing more can be
-- recorded
abbrev pub CoursesUnless : {C U W : Type 0} → Option Ending → Ghosts C U → Recordings W → (W → Bool) → Policy → Agenda → Option Left → Stage C U W → Stage C U W → Type 0
CoursesUnless (Some ending) S R over policy agenda before old new = Courses S R policy agenda ending before old new
CoursesUnless None S R over policy agenda before old new = CoursesFirst S R over policy agenda before old new

-- The agenda's events stopped at one of them, or between two. After all earlier events more could
-- still be recorded.
pub record CoursesAmid {C U W : Type 0} (S : Ghosts C U) (R : Recordings W) (over : W → Bool) (policy : Policy) (agenda : Agenda) (before : Option Left) (old : Stage C U W) (c : C) (u : U) (written : Option (List ℕ)) : Type 0 where
  pub events : List Event
  pub stop : StopsLast S R over policy events old c u written
  pub first : IfSome before (λ l. FromEach S policy old (λ s. AreFirst events (agenda l s (event_of old.tally)).events))

-- P holds of each state that the scheduler and the queues represent and in which no packet yet to
-- arrive is queued, with the course from there over the packets left. If those are not known to the
-- contract, nothing is claimed.
abbrev pub OnCourse : {C U : Type 0} → (C → U → SourceState → Type 0) → Policy → C → U → ℕ → Option Left → Agenda → (SourceState → Course → Type 0) → Type 0
OnCourse stands policy c u given left agenda P =
    IfSome left (λ l. ForEachState stands policy c u (λ s. IsHeldBelow (given + 1) s.held → P s (agenda l s 1)))

-- all events of the course were made, and its report is written after the text
pub record Runs {C U : Type 0} (S : Ghosts C U) (policy : Policy) (run : Course) (from : SourceState) (c : C) (u : U) (c' : C) (u' : U) (text written : Option (List ℕ)) : Type 0 where
  pub leaves : HasMade S policy run.events from c u c' u'
  pub report : Appended text written (course_report policy run from)

-- a prefix of its events was made, and a prefix of the text and its report is written
pub record Breaks {C U : Type 0} (S : Ghosts C U) (policy : Policy) (run : Course) (from : SourceState) (c : C) (u : U) (c' : C) (u' : U) (text written : Option (List ℕ)) : Type 0 where
  pub leaves : HasMadeSome S policy run.events from c u c' u'
  pub report : IsCut text (course_report policy run from) written
