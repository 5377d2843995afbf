-- A study whose inputs are accepted.
use Rattle.std.specs.Prelude.{◌≡◌, ℕ, Option, None, Some, List, []}
use Rattle.events_core.specs.declared.step.Step.{Step}
use Rattle.policy_text_defs.specs.Sense.{Entry}
use Rattle.policy_rules.specs.Resolved.{Resolved}
use Rattle.sched_defs.specs.Pace as pace
use Rattle.sched_embedded.specs.Laid.{Laid}
use Rattle.replay_app.specs.Answer.{Answer}
use Rattle.replay_app.specs.Policies.{PolicyFile}
use Rattle.replay_app.specs.Scripts.{script_pace}
use Rattle.study.specs.Places.{laid_of, policy_file_in}
use Rattle.study.specs.Studied.{IsViewed, IsDriven, departures}
use Rattle.study.specs.declared.parts.Drive.{Drive}
use Rattle.study.specs.declared.parts.Drive.TheVariants.{Script, Link, Forward}
use Rattle.study.specs.declared.parts.Study.{Study}
use Rattle.study.specs.declared.parts.View.{View}
use Rattle.study.specs.declared.preparation.Prepared.{Prepared}

-- the steps of a script, or none
abbrev pub steps_of : Option (List Step) → List Step
steps_of None = []
steps_of (Some steps) = steps

abbrev pub policy_file_as : List Entry → Resolved → PolicyFile
policy_file_as entries policy = record { entries = entries; policy = policy }

-- the output of a run over a capture, by what paces it; these are the steps of a script
abbrev pub IsPacedRun : Drive → View → Option Laid → PolicyFile → List Step → List ℕ → Answer → Type 0
IsPacedRun (Script e) view laid policy_file steps capture = IsViewed view laid policy_file (script_pace steps) capture
IsPacedRun (Link rate) view laid policy_file steps capture = IsViewed view laid policy_file (pace.Link rate) capture
IsPacedRun (Forward rate) view laid policy_file steps capture = λ a. a ≡ departures policy_file.policy rate capture

-- the output of a study under an accepted policy
abbrev pub IsRunUnder : Study → (List ℕ → List ℕ) → PolicyFile → Option Laid → Answer → Type 0
IsRunUnder s contents policy_file laid = IsDriven s.drive s.view laid policy_file (contents s.capture.now) contents

-- the output of a study whose inputs are accepted, over a capture
abbrev pub IsRunOf : Study → Prepared → List ℕ → Answer → Type 0
IsRunOf s p capture = IsPacedRun s.drive s.view (laid_of p.place) (policy_file_in p.lines p.place) (steps_of p.script) capture
