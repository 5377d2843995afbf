-- Runs whose outcomes are recorded in another form than a report.
use Rattle.std.specs.Prelude.{◌≡◌, ◌⊎◌, ℕ, Option, None, Some, List, []}
use Rattle.outside_core.specs.Written.{Appended, AppendedPrefix}
use Rattle.policy_defs.specs.Policy.{Policy}
use Rattle.sched_defs.specs.SourceState.{start}
use Rattle.sched_defs.specs.Events.{Event, outcomes, CanMake}
use Rattle.sched_defs.specs.Packets.{Captured}
use Rattle.sched_defs.specs.declared.ending.Ending.{Ending}
use Rattle.sched_run.specs.declared.recorder.Recorder as recorder
use Rattle.sched_run.specs.Recording.{Recording, Cutting}
use Rattle.sched_capture.specs.Answers.{RunAnswer}
use Rattle.study.specs.declared.recorded.Recorded.{Recorded}
use Rattle.study.specs.declared.recorded.Recorded.TheVariants.{Whole, Refused}

-- the outcomes of these events from the start are recorded, the first of which has number 1, for
-- some captured bytes of the packets
abbrev pub AreRecorded : {W : Type 0} → (Captured → Recording W) → Policy → List Event → W → Option (List ℕ) → W → Option (List ℕ) → Type 0
AreRecorded records policy events w a v b = (captured : Captured) × records captured w a policy 1 (outcomes policy events (start policy)) v b

-- only a prefix of their record is written
abbrev pub AreCutShort : {W : Type 0} → (Captured → Cutting W) → Policy → List Event → W → Option (List ℕ) → Option (List ℕ) → Type 0
AreCutShort cuts policy events w a b = (captured : Captured) × cuts captured w a policy 1 (outcomes policy events (start policy)) b

-- all events of the run were recorded, and more could be
pub record IsWholeRun {W : Type 0} (R : recorder.Ghosts W) (policy : Policy) (answer : RunAnswer) (w : W) (a : Option (List ℕ)) (ending : Ending) (v : W) (b : Option (List ℕ)) : Type 0 where
  pub ends : ending ≡ answer.ending
  pub events : List Event
  pub are : answer.events ≡ Some events
  pub can : CanMake policy events (start policy)
  pub recorded : AreRecorded R.records policy events w a v b
  pub live : R.live v

-- the file is no capture: no run begins, and its fault line is written
pub record IsRefusedRun (answer : RunAnswer) (a : Option (List ℕ)) (ending : Ending) (b : Option (List ℕ)) : Type 0 where
  pub ends : ending ≡ answer.ending
  pub none : answer.events ≡ None
  pub text : Appended a b answer.text

-- how a run with this answer ends, with a recorder in place of the report
abbrev pub HasRecorded : {W : Type 0} → recorder.Ghosts W → Policy → RunAnswer → W → Option (List ℕ) → Recorded W → Option (List ℕ) → Type 0
HasRecorded R policy answer w a (Whole ending v) b = IsWholeRun R policy answer w a ending v b
HasRecorded R policy answer w a (Refused ending) b = IsRefusedRun answer a ending b

-- the run was stopped: a prefix of what its events record is written, or of the fault line, or
-- nothing
abbrev pub IsPartOf : {W : Type 0} → recorder.Ghosts W → Policy → Option (List Event) → List ℕ → W → Option (List ℕ) → Option (List ℕ) → Type 0
IsPartOf R policy None text w a b = AppendedPrefix a b text
IsPartOf R policy (Some events) text w a b = AreCutShort R.cuts policy events w a b ⊎ Appended a b []

abbrev pub HasRecordedPart : {W : Type 0} → recorder.Ghosts W → Policy → RunAnswer → W → Option (List ℕ) → Option (List ℕ) → Type 0
HasRecordedPart R policy answer w a b = IsPartOf R policy answer.events answer.text w a b

-- how a run ends
abbrev pub ending_in : {W : Type 0} → Recorded W → Ending
ending_in (Whole ending w) = ending
ending_in (Refused ending) = ending

-- P holds of the recorder that is returned, if one is
abbrev pub IfRecorded : {W : Type 0} → Recorded W → (W → Type 0) → Type 0
IfRecorded (Whole ending w) P = P w
IfRecorded (Refused ending) P = Unit {0}
