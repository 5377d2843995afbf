-- Policies, and the queues through which their packets go.
use Rattle.std.specs.Prelude.{Option, None, Some}
use Rattle.policy_rules.specs.Resolved.{Resolved}
use Rattle.policy_text.specs.declared.lines.Lines.{Lines}
use Rattle.sched_embedded.specs.Laid.{Laid}
use Rattle.sched_capture.specs.Placements.{laid_by}
use Rattle.replay_app.specs.Policies.{PolicyFile, entries_in}
use Rattle.study.specs.declared.place.Place.{Place}
use Rattle.study.specs.declared.place.Place.TheVariants as place

-- the policy
abbrev pub policy_in : Place → Resolved
policy_in (place.Own policy) = policy
policy_in (place.Laid laid) = laid.policy

-- where the policy's tree is laid, if it is
abbrev pub laid_of : Place → Option Laid
laid_of (place.Own policy) = None
laid_of (place.Laid laid) = Some (laid_by laid)

-- these statements, and the policy that they give
abbrev pub policy_file_in : Lines → Place → PolicyFile
policy_file_in lines place = record { entries = entries_in lines; policy = policy_in place }
