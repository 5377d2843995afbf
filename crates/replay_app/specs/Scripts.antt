-- Reading the text of a script, and the output of a run.
use Rattle.std.specs.Prelude.{◌<◌, ℕ, Option, None, Some, List, [], ◌++◌, length, map}
use Rattle.report_core.specs.declared.fault.FaultKind.TheVariants as kind
use Rattle.sched_defs.specs.declared.ending.Ending.{Ending}
use Rattle.sched_defs.specs.declared.ending.Ending.TheVariants.{Whole, BadCapture, PastLast}
use Rattle.events_core.specs.Script.{IsScript, IsFirstFault, most_bytes, code_of, place_of}
use Rattle.events_core.specs.declared.step.Step.{Step}
use Rattle.events_core.specs.declared.fault.ScriptFault.{ScriptFault}
use Rattle.sched_defs.specs.Pace.{Pace, Script}
use Rattle.sched_embedded.specs.Fabrics.{FabricRun}
use Rattle.sched_run.specs.Steps.{step_of}
use Rattle.tap_core.specs.Lists.{Shown, Entry, entry_after, lines_of, Tracks}
use Rattle.tap_core.specs.Watching.{Sight}
use Rattle.sched_capture.specs.Answers.{RunAnswer}
use Rattle.replay_app.specs.Answer.{Answer}
use Rattle.replay_app.specs.Follows.{Follows}

-- the code and line number with which a script is rejected: it is too long, or has this first fault
pub data IsScriptRefused (text : List ℕ) : ℕ → ℕ → Type 0 where
  too_long : most_bytes < length text → IsScriptRefused text 4 0
  at_fault : (f : ScriptFault) → IsFirstFault text f → IsScriptRefused text (code_of f) (place_of f)

-- outputs that depend on the text of a script
abbrev pub AlongScript : List ℕ → (List Step → Answer → Type 0) → Answer → Type 0
AlongScript text after = Follows kind.Script (IsScriptRefused text) (IsScript text) after

-- a run that a script paces
abbrev pub script_pace : List Step → Pace
script_pace steps = Script (map step_of steps)

-- the status of a run with this ending
abbrev pub ending_status : Ending → ℕ
ending_status (Whole unsent) = 0
ending_status (BadCapture c p) = 7
ending_status (PastLast event) = 6

-- the output of a run without taps and without a fabric
abbrev pub run_answer : RunAnswer → Answer
run_answer r = record { status = ending_status r.ending; text = r.text; run = None; shown = None }

-- the lines that follow the report: those of all taps that watched, if the run ended whole
abbrev pub lines_behind : Ending → List Entry → Option (List Shown) → List ℕ
lines_behind (Whole unsent) watching (Some shown) = lines_of (map (entry_after shown) watching)
lines_behind ending watching shown = []

-- P holds of the lines of all taps that these slots and taps track, if the run ended whole;
-- otherwise P holds of the empty text
abbrev pub OfLines : Ending → Sight → (List ℕ → Type 0) → Type 0
OfLines (Whole unsent) sight P = (all : List Entry) → Tracks all sight.slots sight.taps → P (lines_of all)
OfLines ending sight P = P []

-- the output of a run through the fabric; `shown` is what these taps are shown, if the run begins
abbrev pub watched_answer : RunAnswer → Option FabricRun → List Entry → Option (List Shown) → Answer
watched_answer r through watching shown =
    record { status = ending_status r.ending; text = r.text ++ lines_behind r.ending watching shown; run = through; shown = shown }
