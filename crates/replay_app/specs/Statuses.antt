-- The program's exit statuses.
use Rattle.std.specs.Prelude.{◌≡◌, refl, ◌⊎◌, ◌≤◌, ℕ, List, [], ◌∷◌, map, codes}
use Rattle.report_core.specs.declared.fault.FaultKind.{FaultKind}
use Rattle.report_core.specs.declared.fault.FaultKind.TheVariants.{Words, Policy, Target, Size, Script, Capture, Tree, Map}
use Rattle.sched_defs.specs.declared.ending.Ending as run
use Rattle.sched_defs.specs.declared.ending.Ending.TheVariants as run_ending
use Rattle.sched_capture.specs.declared.departures.ForwardEnding.{ForwardEnding}
use Rattle.sched_capture.specs.declared.departures.ForwardEnding.TheVariants as forward_ending
use Rattle.policy_text_defs.specs.declared.edition.Edition.TheVariants.{Classic}
use Rattle.sched_run.specs.declared.pace.Pace.{Pace}
use Rattle.sched_run.specs.declared.pace.Pace.TheVariants as pace
use Rattle.replay_app.specs.Words.{Pacing, script, link, forward, Form, replay, check, plan, direct, soak, via, no_form}
use Rattle.replay_app.specs.declared.status.Status.{Status}
use Rattle.replay_app.specs.declared.status.Status.TheVariants.{Done, NoForm, BadPolicy, BadTarget, NoRoom, BadScript, BadCapture, BadTree, BadMap, LateStart, OtherLink, OverLimit}

abbrev pub status_code : Status → ℕ
status_code Done = 0
status_code NoForm = 2
status_code BadPolicy = 3
status_code BadTarget = 4
status_code NoRoom = 5
status_code BadScript = 6
status_code BadCapture = 7
status_code BadTree = 12
status_code BadMap = 13
status_code LateStart = 14
status_code OtherLink = 15
status_code OverLimit = 1

-- the status if an input of this kind is rejected
abbrev pub kind_status : FaultKind → Status
kind_status Words = NoForm
kind_status Policy = BadPolicy
kind_status Target = BadTarget
kind_status Size = NoRoom
kind_status Script = BadScript
kind_status Capture = BadCapture
kind_status Tree = BadTree
kind_status Map = BadMap

-- the status of a run with this ending
abbrev pub run_status : run.Ending → Status
run_status (run_ending.Whole unsent) = Done
run_status (run_ending.PastLast event) = BadScript
run_status (run_ending.BadCapture c p) = BadCapture

-- the status of a run with this ending, whose departures are written as a capture
abbrev pub forward_status : ForwardEnding → Status
forward_status forward_ending.Whole = Done
forward_status (forward_ending.BadCapture c p) = BadCapture
forward_status (forward_ending.OtherLink n) = OtherLink
forward_status forward_ending.Late = LateStart

-- ---- the statuses that the arguments allow
-- the status is one of these
abbrev pub IsOneOf : List ℕ → ℕ → Type 0
IsOneOf [] status = ⊥
IsOneOf (s ∷ others) status = (status ≡ s) ⊎ IsOneOf others status

-- the script and the capture decide how a run ends
abbrev pub run_statuses : List ℕ
run_statuses = 6 ∷ 7 ∷ 0 ∷ []

-- a link has no script
abbrev pub link_statuses : List ℕ
link_statuses = 7 ∷ 0 ∷ []

-- a packet with another link type ends the run, and so does a departure that starts too late
abbrev pub forward_statuses : List ℕ
forward_statuses = 7 ∷ 15 ∷ 14 ∷ 0 ∷ []

abbrev pub paced_statuses : Pacing → List ℕ
paced_statuses (script e named) = run_statuses
paced_statuses (link rate) = link_statuses
paced_statuses (forward rate) = forward_statuses

abbrev pub pace_statuses : Pace → List ℕ
pace_statuses (pace.Script steps) = run_statuses
pace_statuses (pace.Link rate) = link_statuses

-- the possible statuses for a form, if nothing stops the program
abbrev pub statuses_of : Form → List ℕ
statuses_of (replay latest p t c pacing) = 3 ∷ 4 ∷ 5 ∷ paced_statuses pacing
statuses_of (check latest p) = 3 ∷ 0 ∷ []
statuses_of (plan latest p t) = 3 ∷ 4 ∷ 5 ∷ 0 ∷ []
statuses_of (direct latest p c e) = 3 ∷ run_statuses
statuses_of (soak load) = 0 ∷ []
statuses_of (via latest p g m t c e) = 3 ∷ 12 ∷ 13 ∷ 4 ∷ 5 ∷ run_statuses
statuses_of no_form = 2 ∷ []

-- reading failed, writing failed, or memory ran out
abbrev pub IsStop : ℕ → Type 0
IsStop status = IsOneOf (8 ∷ 9 ∷ 10 ∷ []) status

-- arguments of this form can end with this status
abbrev pub CanEnd : Form → ℕ → Type 0
CanEnd form status = IsOneOf (statuses_of form) status ⊎ IsStop status

-- the arguments, the policy, the topology, the map or the target are rejected, or the target has no
-- room: no run began
abbrev pub IsRefusal : ℕ → Type 0
IsRefusal status = ((2 ≤ status) × (status ≤ 5)) ⊎ ((12 ≤ status) × (status ≤ 13))

statuses_of_inputs : map (λ k. status_code (kind_status k)) (Words ∷ Policy ∷ Target ∷ Size ∷ Script ∷ Capture ∷ Tree ∷ Map ∷ []) ≡ 2 ∷ 3 ∷ 4 ∷ 5 ∷ 6 ∷ 7 ∷ 12 ∷ 13 ∷ []
statuses_of_inputs = refl

-- unsent packets are not an error
statuses_of_runs : map (λ e. status_code (run_status e)) (run_ending.Whole 3 ∷ run_ending.PastLast 3 ∷ run_ending.BadCapture 6 3 ∷ []) ≡ 0 ∷ 6 ∷ 7 ∷ []
statuses_of_runs = refl

statuses_of_forwards : map (λ e. status_code (forward_status e)) (forward_ending.Whole ∷ forward_ending.BadCapture 6 3 ∷ forward_ending.Late ∷ forward_ending.OtherLink 3 ∷ []) ≡ 0 ∷ 7 ∷ 14 ∷ 15 ∷ []
statuses_of_forwards = refl

-- a link reads no script, so it never ends with 6
statuses_of_a_link : statuses_of (replay Classic (codes "p") (codes "t") (codes "c") (link 60)) ≡ 3 ∷ 4 ∷ 5 ∷ 7 ∷ 0 ∷ []
statuses_of_a_link = refl

-- a plan reads no capture, and a target without room is an error
statuses_of_a_plan : statuses_of (plan Classic (codes "p") (codes "t")) ≡ 3 ∷ 4 ∷ 5 ∷ 0 ∷ []
statuses_of_a_plan = refl
