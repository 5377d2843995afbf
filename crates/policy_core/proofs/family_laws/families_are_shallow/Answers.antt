use Rattle.policy_core.proofs.FamilyFaults.{is-shallow}
use Rattle.policy_core.proofs.family_laws.families_are_shallow.Goals as goal

pub returns : goal.returns
returns c = record { law = is-shallow }
