-- A run whose outcomes are written as JSON lines.
use Rattle.std.specs.Prelude.{ℕ, Option, None, Some, List}
use Rattle.policy_defs.specs.Policy.{Policy}
use Rattle.policy_rules.specs.Resolved.{Resolved}
use Rattle.sched_defs.specs.SourceState.{start}
use Rattle.sched_defs.specs.Events.{Event, outcomes}
use Rattle.sched_defs.specs.Pace.{Pace, Script, Link}
use Rattle.sched_defs.specs.declared.ending.Ending.{Ending}
use Rattle.sched_defs.specs.declared.rate.LinkRate.{LinkRate}
use Rattle.sched_capture.specs.Answers.{RunAnswer, paced_answer}
use Rattle.event_json.specs.Json.{json_text}
use Rattle.replay_app.specs.Answer.{Answer, text_alone}
use Rattle.replay_app.specs.Scripts.{ending_status}

-- the link's rate, if a link paces the run
abbrev pub rate_in : Pace → Option LinkRate
rate_in (Script steps) = None
rate_in (Link rate) = Some rate

-- the lines of a run with these events and this ending; if no run begins, the line of the error
abbrev pub json_or : Option LinkRate → Policy → Option (List Event) → Ending → List ℕ → List ℕ
json_or rate policy None ending error = error
json_or rate policy (Some events) ending error = json_text rate policy (outcomes policy events (start policy)) ending

-- A file that is no capture gives the line that a report gives.
abbrev pub json_lines : Option LinkRate → Policy → RunAnswer → List ℕ
json_lines rate policy answer = json_or rate policy answer.events answer.ending answer.text

abbrev pub json_run : Resolved → Pace → List ℕ → Answer
json_run policy pace capture =
    text_alone (ending_status (paced_answer policy pace capture).ending) (json_lines (rate_in pace) policy.policy (paced_answer policy pace capture))
