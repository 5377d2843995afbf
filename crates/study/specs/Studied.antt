-- The output of a study for its files. A reader of the contract of `study` has to trust these
-- definitions.
use Rattle.std.specs.Prelude.{◌≡◌, ◌⊎◌, ℕ, Option, None, Some, List, []}
use Rattle.outside_core.specs.Written.{Appended}
use Rattle.tree_defs.specs.Topology.{Topology, topology_of}
use Rattle.policy_rules.specs.Resolved.{Resolved}
use Rattle.sched_defs.specs.Pace as pace
use Rattle.sched_defs.specs.declared.rate.LinkRate.{LinkRate}
use Rattle.sched_capture.specs.Answers.{paced_answer}
use Rattle.sched_capture.specs.Forwards.{forward_answer}
use Rattle.sched_embedded.specs.Laid.{Laid}
use Rattle.size_core.specs.Text.{sizes_text}
use Rattle.size_core.specs.Json.{sizes_json}
use Rattle.summary_core.specs.Text.{summary_text}
use Rattle.summary_core.specs.Json.{summary_json}
use Rattle.replay_app.specs.Answer.{Answer, IsGiven, text_alone}
use Rattle.replay_app.specs.Output.{direct_run}
use Rattle.replay_app.specs.Policies.{PolicyFile, UnderPolicy}
use Rattle.replay_app.specs.Scripts.{AlongScript, script_pace}
use Rattle.replay_app.specs.Statuses.{status_code, forward_status}
use Rattle.replay_app.specs.Targets.{ForTarget, WithRoom}
use Rattle.study.specs.Files.{target_of, IsSummedUp}
use Rattle.study.specs.JsonRuns.{json_run}
use Rattle.study.specs.SumRuns.{IsSummed}
use Rattle.study.specs.SizeRuns.{IsSizedIn}
use Rattle.study.specs.declared.parts.Drive.{Drive}
use Rattle.study.specs.declared.parts.Drive.TheVariants.{Script, Link, Forward}
use Rattle.study.specs.declared.parts.Study.{Study}
use Rattle.study.specs.declared.parts.View.{View}
use Rattle.study.specs.declared.parts.View.TheVariants.{Report, Json, Summary, JsonSummary, Size, JsonSize}

-- The target, if there is one, is read, and needs room for a policy's tree. A run through a target
-- gives the output of a run through the policy's own tree.
abbrev pub InTarget : Option (List ℕ) → Topology → (List ℕ → List ℕ) → (Option Laid → Answer → Type 0) → Answer → Type 0
InTarget None tree contents after = after None
InTarget (Some t) tree contents after = ForTarget (contents t) (λ target. WithRoom tree target (λ laid. after (Some laid)))

-- the output of a run over a capture, by its view
abbrev pub IsViewed : View → Option Laid → PolicyFile → pace.Pace → List ℕ → Answer → Type 0
IsViewed Report laid policy_file paced capture = λ a. a ≡ direct_run policy_file.policy paced capture
IsViewed Json laid policy_file paced capture = λ a. a ≡ json_run policy_file.policy paced capture
IsViewed Summary laid policy_file paced capture = IsSummed summary_text policy_file paced (paced_answer policy_file.policy paced capture)
IsViewed JsonSummary laid policy_file paced capture = IsSummed summary_json policy_file paced (paced_answer policy_file.policy paced capture)
IsViewed (Size m) laid policy_file paced capture = IsSizedIn sizes_text m laid policy_file.policy paced capture
IsViewed (JsonSize m) laid policy_file paced capture = IsSizedIn sizes_json m laid policy_file.policy paced capture

-- the departures of a link as a capture, and the status of the run
abbrev pub departures : Resolved → LinkRate → List ℕ → Answer
departures policy rate capture = text_alone (status_code (forward_status (forward_answer policy rate capture).ending)) (forward_answer policy rate capture).text

-- the output of a run over a capture, by what paces it
abbrev pub IsDriven : Drive → View → Option Laid → PolicyFile → List ℕ → (List ℕ → List ℕ) → Answer → Type 0
IsDriven (Script e) view laid policy_file capture contents = AlongScript (contents e.now) (λ steps. IsViewed view laid policy_file (script_pace steps) capture)
IsDriven (Link rate) view laid policy_file capture contents = IsViewed view laid policy_file (pace.Link rate) capture
IsDriven (Forward rate) view laid policy_file capture contents = λ a. a ≡ departures policy_file.policy rate capture

-- The output of a study for the contents of its files. Inputs are rejected or accepted in this
-- order: the policy, the target, the target's room for the policy's tree, the script, and the
-- capture, which is part of the run.
abbrev pub IsStudied : Study → (List ℕ → List ℕ) → Answer → Type 0
IsStudied s contents =
    UnderPolicy s.latest (contents s.policy.now) (λ policy_file.
    InTarget (target_of s) (topology_of policy_file.policy.policy.tree) contents (λ laid.
    IsDriven s.drive s.view laid policy_file (contents s.capture.now) contents))

-- The run is summed up, and a sum had no room: nothing is written, with the status of a departure
-- that starts too late. Runs of fewer than 2^32 packets always have room, unless a delay is 2^64
-- nanoseconds or more.
pub record HasNoRoomForSums (s : Study) (status : ℕ) (old new : Option (List ℕ)) : Type 0 where
  pub summed_up : IsSummedUp s.drive s.view
  pub status_is : status ≡ 14
  pub nothing : Appended old new []

-- one of the outputs was given, or the program was stopped with a prefix of every output, or a sum
-- had no room
abbrev pub IsAnswered : Study → (List ℕ → List ℕ) → ℕ → Option (List ℕ) → Option (List ℕ) → Type 0
IsAnswered s contents status old new = IsGiven (IsStudied s contents) status old new ⊎ HasNoRoomForSums s status old new
