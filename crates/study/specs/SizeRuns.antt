-- Runs that say how large the target's queues get.
use Rattle.std.specs.Prelude.{◌≡◌, ℕ, Option, None, Some, List}
use Rattle.policy_defs.specs.Policy.{Policy}
use Rattle.policy_rules.specs.Resolved.{Resolved}
use Rattle.sched_defs.specs.SourceState.{start}
use Rattle.sched_defs.specs.Events.{Event, outcomes}
use Rattle.sched_defs.specs.Pace.{Pace}
use Rattle.sched_defs.specs.declared.ending.Ending.{Ending}
use Rattle.sched_defs.specs.declared.ending.Ending.TheVariants.{Whole, BadCapture, PastLast}
use Rattle.sched_embedded.specs.Laid.{Laid}
use Rattle.sched_capture.specs.Answers.{RunAnswer, paced_answer}
use Rattle.replay_app.specs.Answer.{Answer}
use Rattle.replay_app.specs.Output.{direct_run}
use Rattle.replay_app.specs.Statuses.{run_status, status_code}
use Rattle.replay_app.specs.declared.status.Status.{Status}
use Rattle.replay_app.specs.declared.status.Status.TheVariants.{OverLimit}
use Rattle.size_core.specs.declared.limits.Overflow.{Overflow}
use Rattle.size_core.specs.declared.memory.Widths.{Widths}
use Rattle.size_core.specs.declared.size.Sizes.{Sizes}
use Rattle.size_core.specs.Sizes.{AreSizesOf, sizes_after}
use Rattle.size_core.specs.Text.{sizes_text}
use Rattle.size_core.specs.Json.{sizes_json}
use Rattle.study.specs.SumRuns.{IsResult}
use Rattle.study.specs.declared.parts.Measure.{Measure}
use Rattle.study.specs.declared.sums.Form.{Form}
use Rattle.study.specs.declared.sums.Form.TheVariants.{Text, Json}

-- the rendering of each form
abbrev pub shown : Form → Sizes → Option Widths → List ℕ
shown Text = sizes_text
shown Json = sizes_json

-- an error is told rather than a limit that was passed
abbrev pub size_status : Option Overflow → Ending → Status
size_status None ending = run_status ending
size_status (Some o) (Whole unread) = OverLimit
size_status (Some o) (BadCapture code place) = run_status (BadCapture code place)
size_status (Some o) (PastLast event) = run_status (PastLast event)

-- the sizes of a run with these events
abbrev pub AreRunSizes : Measure → Laid → Policy → List Event → Sizes → Type 0
AreRunSizes m laid policy events r = AreSizesOf laid policy (sizes_after laid policy m.limits m.stores 1 (outcomes policy events (start policy))) r

-- the sizes of a run are written
abbrev pub IsSized : (Sizes → Option Widths → List ℕ) → Measure → Laid → Policy → RunAnswer → Answer → Type 0
IsSized show m laid policy answer = IsResult (AreRunSizes m laid policy) (λ r e. status_code (size_status r.overflow e)) (λ r. show r m.widths) answer

-- without a target the report is written
abbrev pub IsSizedIn : (Sizes → Option Widths → List ℕ) → Measure → Option Laid → Resolved → Pace → List ℕ → Answer → Type 0
IsSizedIn show m None policy paced capture = λ a. a ≡ direct_run policy paced capture
IsSizedIn show m (Some laid) policy paced capture = IsSized show m laid policy.policy (paced_answer policy paced capture)
