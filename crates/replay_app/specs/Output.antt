-- The output of the program for its arguments and files. A reader of the program's contract has to
-- trust these definitions.
use Rattle.std.specs.Prelude.{◌≡◌, ℕ, Option, None, List, []}
use Rattle.report_core.specs.declared.fault.FaultKind.TheVariants.{Words}
use Rattle.tree_defs.specs.Topology.{topology_of}
use Rattle.policy_rules.specs.Resolved.{Resolved}
use Rattle.sched_defs.specs.SendTime.{plain_rate}
use Rattle.sched_defs.specs.Pace.{Pace, Link}
use Rattle.sched_defs.specs.declared.rate.LinkRate.{LinkRate}
use Rattle.sched_embedded.specs.Laid.{Laid}
use Rattle.sched_embedded.specs.Fabrics.{run_of}
use Rattle.sched_capture.specs.Answers.{paced_answer, shown_by}
use Rattle.sched_capture.specs.Forwards.{forward_answer}
use Rattle.tap_core.specs.Lists.{Entry, named_entries}
use Rattle.replay_app.specs.Answer.{Answer, refusal, IsGiven}
use Rattle.replay_app.specs.Policies.{UnderPolicy, checked}
use Rattle.replay_app.specs.Soak.{IsSoaked}
use Rattle.replay_app.specs.Scripts.{AlongScript, script_pace, run_answer, watched_answer}
use Rattle.replay_app.specs.Statuses.{status_code, forward_status}
use Rattle.replay_app.specs.Targets.{ForTarget, WithRoom, IsPlanned}
use Rattle.replay_app.specs.Via.{ForTopology, ForMap, WithRoomAlong}
use Rattle.replay_app.specs.Words.{Pacing, script, link, forward, Form, replay, check, plan, direct, soak, via, no_form}

-- the report of a run through the policy's own tree, without a fabric
abbrev pub direct_run : Resolved → Pace → List ℕ → Answer
direct_run policy pace capture = run_answer (paced_answer policy pace capture)

-- the same report for a run through a fabric that holds the tree; the lines of these taps follow it
-- if the run ended whole
abbrev pub laid_run : Resolved → Laid → Pace → List ℕ → List Entry → Answer
laid_run policy laid pace capture watching = watched_answer (paced_answer policy pace capture)
    (run_of policy.policy laid (paced_answer policy pace capture).events) watching (shown_by policy.policy (paced_answer policy pace capture))

-- the status of a run whose departures are written, and those departures as a capture
abbrev pub forward_run : Resolved → Laid → LinkRate → List ℕ → Answer
forward_run policy laid rate capture = record {
  status = status_code (forward_status (forward_answer policy rate capture).ending);
  text = (forward_answer policy rate capture).text;
  run = run_of policy.policy laid (forward_answer policy rate capture).events;
  shown = None;
}

-- the taps that watch: those of the named kinds, and none if a link paces the run
abbrev pub watchers : Pacing → List Entry → List Entry
watchers (script e named) taps = named_entries named taps
watchers (link rate) taps = []
watchers (forward rate) taps = []

-- the output of a run over a capture through the fabric, by what paces it: a script is read from
-- its file, and a link's rate comes from the arguments
abbrev pub IsPaced : List Entry → Resolved → Laid → Pacing → List ℕ → (List ℕ → List ℕ) → Answer → Type 0
IsPaced watching policy laid (script e named) capture contents =
    AlongScript (contents e) (λ steps b. b ≡ laid_run policy laid (script_pace steps) capture watching)
IsPaced watching policy laid (link rate) capture contents = λ b. b ≡ laid_run policy laid (Link (plain_rate rate)) capture watching
IsPaced watching policy laid (forward rate) capture contents = λ b. b ≡ forward_run policy laid (plain_rate rate) capture

-- The output for these arguments, file contents and taps. Inputs are rejected or accepted in this
-- order: the policy, the target, the target's room for the policy's tree, the script, if one paces
-- the run, and the capture, which is part of the run. For a given map, the topology and the map
-- follow the policy, and the target needs room for the topology. A generated load has no input.
abbrev pub IsOutput : Form → (List ℕ → List ℕ) → List Entry → Answer → Type 0
IsOutput (replay latest p t c pacing) contents taps a =
    UnderPolicy latest (contents p) (λ policy_file.
    ForTarget (contents t) (λ target.
    WithRoom (topology_of policy_file.policy.policy.tree) target (λ laid.
    IsPaced (watchers pacing taps) policy_file.policy laid pacing (contents c) contents))) a
IsOutput (direct latest p c e) contents taps a =
    UnderPolicy latest (contents p) (λ policy_file.
    AlongScript (contents e) (λ steps b.
    b ≡ direct_run policy_file.policy (script_pace steps) (contents c))) a
IsOutput (plan latest p t) contents taps a =
    UnderPolicy latest (contents p) (λ policy_file.
    ForTarget (contents t) (λ target.
    IsPlanned policy_file.policy.policy target)) a
IsOutput (check latest p) contents taps a = UnderPolicy latest (contents p) (λ policy_file b. b ≡ checked policy_file) a
IsOutput (soak load) contents taps a = IsSoaked load a
IsOutput (via latest p g m t c e) contents taps a =
    UnderPolicy latest (contents p) (λ policy_file.
    ForTopology (contents g) (λ middle.
    ForMap policy_file.policy.policy middle (contents m) (λ given.
    ForTarget (contents t) (λ target.
    WithRoomAlong policy_file.policy.policy given middle target (λ laid.
    AlongScript (contents e) (λ steps b.
    b ≡ laid_run policy_file.policy laid (script_pace steps) (contents c) [])))))) a
IsOutput no_form contents taps a = a ≡ refusal Words 0 0

-- ---- the text written
-- one of the outputs for the arguments was given, or the program was stopped with a prefix of every
-- one
abbrev pub Answers : Form → (List ℕ → List ℕ) → List Entry → ℕ → Option (List ℕ) → Option (List ℕ) → Type 0
Answers form contents taps = IsGiven (IsOutput form contents taps)
