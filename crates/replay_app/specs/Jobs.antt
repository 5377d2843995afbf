-- What a command does once its inputs are accepted.
use Rattle.std.specs.Prelude.{◌≡◌, ◌≢◌, ◌≤◌, ℕ, Option, Some, None, List, [], ◌∷◌, Result, Ok, Err, Vec}
use Rattle.std.specs.declared.alloc.Global.{Global}
use denote.Ref.{Bor}
use Rattle.policy_rules.specs.Resolved.{Resolved}
use Rattle.policy_text_defs.specs.declared.edition.Edition.{Edition}
use Rattle.events_core.specs.declared.step.Step.{Step}
use Rattle.sched_defs.specs.declared.rate.LinkRate.{LinkRate}
use Rattle.sched_capture.specs.declared.load.LoadSize.{LoadSize}
use Rattle.fabric_core.specs.declared.fabric.Fabric.{Ghosts}
use Rattle.events_core.specs.Script.{most_count}
use Rattle.events_core.specs.Steps.{counts_of}
use Rattle.sched_defs.specs.Pace.{Link}
use Rattle.sched_defs.specs.SendTime.{IsRate}
use Rattle.sched_embedded.specs.Fabrics.{Leaves, LeavesPart}
use Rattle.sched_run.specs.Drawings.{most_load}
use Rattle.sched_capture.specs.Placements.{Placed, laid_by}
use Rattle.outside_core.specs.declared.stop.Stop.{Stop}
use Rattle.tap_core.specs.Lists.{Shown, Entry, named_entries, left_after}
use Rattle.tap_core.specs.declared.watch.Named.{Named}
use Rattle.replay_app.specs.Answer.{Answer, IsDone, text_alone}
use Rattle.replay_app.specs.Output.{direct_run, laid_run, forward_run}
use Rattle.replay_app.specs.Scripts.{script_pace}
use Rattle.replay_app.specs.Soak.{IsSoaked}
use Rattle.replay_app.specs.Statuses.{IsOneOf, run_statuses, link_statuses, forward_statuses, statuses_of, status_code, kind_status}
use Rattle.replay_app.specs.Words.{Form, file_words, replay, script, link, forward, check, plan, direct, soak, via}
use Rattle.replay_app.specs.declared.status.Status.{Status}
use Rattle.replay_app.specs.declared.job.Job.{Job}
use Rattle.replay_app.specs.declared.job.Job.TheVariants.{Write, Own, Watched, Alone, Load}
use Rattle.replay_app.specs.declared.job.Drive.{Drive}
use Rattle.replay_app.specs.declared.job.Drive.TheVariants as drive
use Rattle.replay_app.specs.declared.not_run.NotRun.{NotRun}
use Rattle.replay_app.specs.declared.not_run.NotRun.TheVariants.{Rejected, Stopped}

-- ---- the output
-- the output of a run that no tap watches
abbrev pub alone_run : Placed → Drive → List ℕ → Answer
alone_run laid (drive.Script steps) capture = laid_run laid.policy (laid_by laid) (script_pace steps) capture []
alone_run laid (drive.Link rate) capture = laid_run laid.policy (laid_by laid) (Link rate) capture []
alone_run laid (drive.Forward rate) capture = forward_run laid.policy (laid_by laid) rate capture

-- the output of a job, for these file contents and taps
abbrev pub IsJobOutput : (List ℕ → List ℕ) → List Entry → Job → Answer → Type 0
IsJobOutput contents taps (Write text) a = a ≡ text_alone 0 text.items
IsJobOutput contents taps (Own policy steps capture) a = a ≡ direct_run policy (script_pace steps) (contents capture.now)
IsJobOutput contents taps (Watched laid steps named capture) a =
    a ≡ laid_run laid.policy (laid_by laid) (script_pace steps) (contents capture.now) (named_entries named taps)
IsJobOutput contents taps (Alone laid drive capture) a = a ≡ alone_run laid drive (contents capture.now)
IsJobOutput contents taps (Load load) a = IsSoaked load a

-- the capture that a job reads
abbrev pub job_files : Job → List (List ℕ)
job_files (Write text) = []
job_files (Own policy steps capture) = capture.now ∷ []
job_files (Watched laid steps named capture) = capture.now ∷ []
job_files (Alone laid drive capture) = capture.now ∷ []
job_files (Load load) = []

-- ---- what it may do
-- a script isn't too long, and a link's rate is in range
abbrev pub IsDrive : Drive → Type 0
IsDrive (drive.Script steps) = counts_of steps ≤ most_count
IsDrive (drive.Link rate) = IsRate rate
IsDrive (drive.Forward rate) = IsRate rate

abbrev pub CanDo : Job → Type 0
CanDo (Write text) = Unit {0}
CanDo (Own policy steps capture) = counts_of steps ≤ most_count
CanDo (Watched laid steps named capture) = counts_of steps ≤ most_count
CanDo (Alone laid drive capture) = IsDrive drive
CanDo (Load load) = load.count ≤ most_load

-- ---- how it ends
abbrev pub drive_statuses : Drive → List ℕ
drive_statuses (drive.Script steps) = run_statuses
drive_statuses (drive.Link rate) = link_statuses
drive_statuses (drive.Forward rate) = forward_statuses

abbrev pub job_statuses : Job → List ℕ
job_statuses (Write text) = 0 ∷ []
job_statuses (Own policy steps capture) = run_statuses
job_statuses (Watched laid steps named capture) = run_statuses
job_statuses (Alone laid drive capture) = drive_statuses drive
job_statuses (Load load) = 0 ∷ []

-- only these jobs use no fabric
abbrev pub LeavesFabric : Job → Type 0
LeavesFabric (Write text) = Unit {0}
LeavesFabric (Own policy steps capture) = Unit {0}
LeavesFabric job = ⊥

-- the taps that a run leaves if it showed this to those of the named kinds
abbrev pub taps_after : Named → Option (List Shown) → List Entry → List Entry
taps_after named None taps = taps
taps_after named (Some shown) taps = left_after shown (named_entries named taps)

-- the same for a job
abbrev pub job_taps : Job → Option (List Shown) → List Entry → List Entry
job_taps (Watched laid steps named capture) = taps_after named
job_taps job = λ shown taps. taps

-- only a run with a list of taps shows them anything
abbrev pub LeavesTaps : Job → Type 0
LeavesTaps (Watched laid steps named capture) = ⊥
LeavesTaps job = Unit {0}

-- the fabric holds the result of the run, and `left` gives the taps that it leaves
pub record LeavesTapsSo {F : Type 0} (fabrics : Ghosts F) (left : Option (List Shown) → List Entry → List Entry) (old new : F) (before after : List Entry) (a : Answer) : Type 0 where
  pub fabric : Leaves fabrics a.run old new
  pub taps : after ≡ left a.shown before

-- the fabric and the taps are those that every output leaves; or the call was stopped, and the
-- fabric holds the result of a prefix of the run
abbrev pub IsLeftSo : {F : Type 0} → Ghosts F → (Option (List Shown) → List Entry → List Entry) → (Answer → Type 0) → Result Status Stop → F → F → List Entry → List Entry → Type 0
IsLeftSo fabrics left output r old new before after =
    IsDone output r (LeavesTapsSo fabrics left old new before after) (λ a. LeavesPart fabrics a.run old new)

-- ---- which job
-- the job is of the kind that the arguments ask for, and reads their capture
pub data IsJobOf : Form → Job → Type 0 where
  checks : (latest : Edition) (p : List ℕ) (text : Vec ℕ Global) → IsJobOf (check latest p) (Write text)
  plans : (latest : Edition) (p t : List ℕ) (text : Vec ℕ Global) → IsJobOf (plan latest p t) (Write text)
  goes_direct : (latest : Edition) (p e : List ℕ) (policy : Resolved) (steps : List Step) (capture : Bor (List ℕ))
      → IsJobOf (direct latest p capture.now e) (Own policy steps capture)
  replays : (latest : Edition) (p t e : List ℕ) (named : Named) (laid : Placed) (steps : List Step) (capture : Bor (List ℕ))
      → IsJobOf (replay latest p t capture.now (script e named)) (Watched laid steps named capture)
  links : (latest : Edition) (p t : List ℕ) (n : ℕ) (laid : Placed) (rate : LinkRate) (capture : Bor (List ℕ))
      → IsJobOf (replay latest p t capture.now (link n)) (Alone laid (drive.Link rate) capture)
  forwards : (latest : Edition) (p t : List ℕ) (n : ℕ) (laid : Placed) (rate : LinkRate) (capture : Bor (List ℕ))
      → IsJobOf (replay latest p t capture.now (forward n)) (Alone laid (drive.Forward rate) capture)
  loads : (load : LoadSize) → IsJobOf (soak load) (Load load)
  goes_along : (latest : Edition) (p g m t e : List ℕ) (laid : Placed) (steps : List Step) (capture : Bor (List ℕ))
      → IsJobOf (via latest p g m t capture.now e) (Alone laid (drive.Script steps) capture)

-- the job fits the arguments and can be done; or an input of theirs is rejected, or a file of theirs
-- can't be read
abbrev pub FitsForm : Form → Result Job NotRun → Type 0
FitsForm form (Ok job) = IsJobOf form job × CanDo job
FitsForm form (Err (Rejected r)) = IsOneOf (statuses_of form) (status_code (kind_status r.kind))
FitsForm form (Err (Stopped stop)) = file_words form ≢ []
