-- A run that is summed up in place of a report.
use Rattle.std.specs.Prelude.{◌≡◌, ◌⊎◌, ◌≤◌, ℕ, length, Option, None, Some, List, [], ◌++◌, codes, Result, Ok}
use Rattle.outside_core.specs.Written.{Appended}
use Rattle.outside_core.specs.declared.stop.Stop.{Stop}
use Rattle.outside_core.specs.Report.{fault_line}
use Rattle.sched_defs.specs.SourceState.{start}
use Rattle.sched_defs.specs.Events.{Event, outcomes}
use Rattle.sched_defs.specs.Pace.{Pace, Script, Link}
use Rattle.sched_defs.specs.Report.{past_last}
use Rattle.sched_defs.specs.SendTime.{plain_rate}
use Rattle.sched_defs.specs.declared.ending.Ending.{Ending}
use Rattle.sched_defs.specs.declared.ending.Ending.TheVariants.{Whole, BadCapture, PastLast}
use Rattle.sched_defs.specs.declared.rate.LinkRate.{LinkRate}
use Rattle.sched_capture.specs.Answers.{RunAnswer}
use Rattle.summary_core.specs.OfRun.{AreSumsOf}
use Rattle.summary_core.specs.declared.group.Groups.{Groups}
use Rattle.replay_app.specs.Answer.{Answer, IsTold, text_alone}
use Rattle.replay_app.specs.Policies.{PolicyFile}
use Rattle.replay_app.specs.Scripts.{ending_status}
use Rattle.replay_app.specs.declared.status.Status.{Status}
use Rattle.replay_app.specs.declared.status.Status.TheVariants.{LateStart}
use Rattle.summary_core.specs.Figures.{HasGroups}
use Rattle.summary_core.specs.declared.group.Label.{Label}
use Rattle.summary_core.specs.declared.summary.Summary.{Summary}
use Rattle.summary_core.specs.Text.{summary_text}
use Rattle.summary_core.specs.Json.{summary_json}
use Rattle.study.specs.declared.sums.Form.{Form}
use Rattle.study.specs.declared.sums.Form.TheVariants.{Text, Json}
use Rattle.study.specs.Labels.{leaf_table, all_leaf_labels, class_labels}

-- the link's rate; a script has no link, and its departures have no times
abbrev pub sum_rate : Pace → LinkRate
sum_rate (Script steps) = plain_rate 1
sum_rate (Link rate) = rate

-- the line of the error at which a run ended, if there is one
abbrev pub ending_line : Ending → List ℕ
ending_line (Whole unread) = []
ending_line (BadCapture code place) = fault_line (codes "capture") code place
ending_line (PastLast event) = fault_line (codes "script") past_last event

-- the groups of a run under a policy: all packets, those of each leaf and those of each class
abbrev pub AreRunSums : PolicyFile → LinkRate → List Event → Groups → Type 0
AreRunSums policy_file rate events gs =
    AreSumsOf (leaf_table policy_file.policy.policy) rate (outcomes policy_file.policy.policy events (start policy_file.policy.policy))
    (all_leaf_labels policy_file.policy.policy.tree) (class_labels policy_file.entries) gs

-- the rendering of each form
abbrev pub render : Form → Groups → List ℕ
render Text = summary_text
render Json = summary_json

-- A file that is no capture gives the line that a report gives. Otherwise a result of the run is
-- written, with the error's line after it if the run didn't end whole.
pub data IsResult {X : Type 0} (of_run : List Event → X → Type 0) (status : X → Ending → ℕ) (text : X → List ℕ) (answer : RunAnswer) : Answer → Type 0 where
  none_begun : answer.events ≡ None → IsResult of_run status text answer (text_alone (ending_status answer.ending) answer.text)
  results : (events : List Event) (x : X) → answer.events ≡ Some events → of_run events x → IsResult of_run status text answer (text_alone (status x answer.ending) (text x ++ ending_line answer.ending))

-- the sums of a run are written
abbrev pub IsSummed : (Groups → List ℕ) → PolicyFile → Pace → RunAnswer → Answer → Type 0
IsSummed render policy_file pace answer = IsResult (AreRunSums policy_file (sum_rate pace)) (λ gs e. ending_status e) render answer

-- a sum had no room: nothing is written, and the status is that of a late start
pub record LacksRoom (sums : Type 0) (r : Result Status Stop) (old new : Option (List ℕ)) : Type 0 where
  pub summed_up : sums
  pub ends : r ≡ Ok LateStart
  pub nothing : Appended old new []

-- one of the outputs was written; or, if the run is summed up, a sum had no room
abbrev pub IsToldOr : Type 0 → (Answer → Type 0) → Result Status Stop → Option (List ℕ) → Option (List ℕ) → Type 0
IsToldOr sums output r old new = IsTold output r old new ⊎ LacksRoom sums r old new

-- each class has one name
abbrev pub HasNames : PolicyFile → Type 0
HasNames policy_file = length (class_labels policy_file.entries) ≤ length policy_file.policy.policy.classes

-- ---- what is written of a summary
-- the text is that of the groups of a summary with these labels
pub record IsTextOf (form : Form) (s : Summary) (leaves classes : List Label) (text : List ℕ) : Type 0 where
  pub groups : Groups
  pub has : HasGroups s leaves classes groups
  pub is : text ≡ render form groups

-- P holds of such a text, followed by the line of the error at which the run ended
pub record AreSumsWritten (form : Form) (s : Summary) (leaves classes : List Label) (ending : Ending) (P : List ℕ → Type 0) : Type 0 where
  pub text : List ℕ
  pub is : IsTextOf form s leaves classes text
  pub written : P (text ++ ending_line ending)
