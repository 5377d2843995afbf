-- The output of the program, and of its calls.
use Rattle.std.specs.Prelude.{◌≡◌, ◌⊎◌, ℕ, Option, None, List, Result, IfOk, OnOk, OnErr}
use Rattle.outside_core.specs.Written.{Appended, AppendedPrefix}
use Rattle.outside_core.specs.Report.{fault_line}
use Rattle.report_core.specs.Faults.{word_of}
use Rattle.report_core.specs.declared.fault.FaultKind.{FaultKind}
use Rattle.fabric_core.specs.declared.fabric.Fabric.{Ghosts}
use Rattle.sched_embedded.specs.Fabrics.{FabricRun, Leaves, LeavesPart}
use Rattle.sched_capture.specs.Answers.{HaveWatched}
use Rattle.tap_core.specs.Lists.{Shown}
use Rattle.tap_core.specs.Watching.{Sight}
use Rattle.replay_app.specs.Statuses.{status_code, kind_status, IsStop}
use Rattle.replay_app.specs.declared.status.Status.{Status}
use Rattle.outside_core.specs.declared.stop.Stop.{Stop}

-- an exit status, the text that is written, the run through the fabric, if any, and what that run
-- shows to taps
pub record Answer : Type 0 where
  pub status : ℕ
  pub text : List ℕ
  pub run : Option FabricRun
  pub shown : Option (List Shown)

-- an input of this kind is rejected: one line is written, and nothing runs
abbrev pub refusal : FaultKind → ℕ → ℕ → Answer
refusal kind code place = record { status = status_code (kind_status kind); text = fault_line (word_of kind) code place; run = None; shown = None }

-- a text is written, and nothing runs
abbrev pub text_alone : ℕ → List ℕ → Answer
text_alone status text = record { status = status; text = text; run = None; shown = None }

-- ---- the effect of a call
-- one of the outputs was written whole, and the status is its status
pub record IsWritten (output : Answer → Type 0) (status : ℕ) (old new : Option (List ℕ)) : Type 0 where
  pub answer : Answer
  pub is : output answer
  pub status_is : status ≡ answer.status
  pub text : Appended old new answer.text

-- P holds of every output
abbrev pub Each : (Answer → Type 0) → (Answer → Type 0) → Type 0
Each output P = (a : Answer) → output a → P a

-- a prefix of every output was written
abbrev pub IsPartWritten : (Answer → Type 0) → Option (List ℕ) → Option (List ℕ) → Type 0
IsPartWritten output old new = Each output (λ a. AppendedPrefix old new a.text)

-- the program was stopped, and a prefix of every output was written
pub record IsStopped (output : Answer → Type 0) (status : ℕ) (old new : Option (List ℕ)) : Type 0 where
  pub stop : IsStop status
  pub part : IsPartWritten output old new

-- one of the outputs was given, or the program was stopped with a prefix of every output
abbrev pub IsGiven : (Answer → Type 0) → ℕ → Option (List ℕ) → Option (List ℕ) → Type 0
IsGiven output status old new = IsWritten output status old new ⊎ IsStopped output status old new

-- One of the outputs was written whole, and its status is returned; or the call was stopped with a
-- prefix of every output.
pub record IsTold (output : Answer → Type 0) (r : Result Status Stop) (old new : Option (List ℕ)) : Type 0 where
  pub whole : IfOk r (λ s. IsWritten output (status_code s) old new)
  pub part : OnErr r (IsPartWritten output old new)

-- `all` holds of every output; or the call was stopped, and `some` holds of every output.
pub record IsDone (output : Answer → Type 0) (r : Result Status Stop) (all some : Answer → Type 0) : Type 0 where
  pub whole : OnOk r (Each output all)
  pub part : OnErr r (Each output some)

-- The fabric holds the result of every output's run; or the call was stopped, and it holds the
-- result of a prefix of that run.
abbrev pub HoldsRun : {F : Type 0} → Ghosts F → (Answer → Type 0) → Result Status Stop → F → F → Type 0
HoldsRun fabrics output r old new = IsDone output r (λ a. Leaves fabrics a.run old new) (λ a. LeavesPart fabrics a.run old new)

-- the fabric holds the result of the run, and taps have watched it
pub record LeavesBoth {F : Type 0} (fabrics : Ghosts F) (old new : F) (before after : Sight) (a : Answer) : Type 0 where
  pub fabric : Leaves fabrics a.run old new
  pub taps : HaveWatched a.shown before after

-- The fabric holds the result of every output's run, and taps have watched it; or the call was
-- stopped, and the fabric holds the result of a prefix of that run.
abbrev pub IsLeft : {F : Type 0} → Ghosts F → (Answer → Type 0) → Result Status Stop → F → F → Sight → Sight → Type 0
IsLeft fabrics output r old new before after =
    IsDone output r (LeavesBoth fabrics old new before after) (λ a. LeavesPart fabrics a.run old new)
