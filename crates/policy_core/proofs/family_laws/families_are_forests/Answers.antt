use Rattle.policy_core.proofs.FamilyFaults.{is-forest}
use Rattle.policy_core.proofs.family_laws.families_are_forests.Goals as goal

pub returns : goal.returns
returns c = record { law = is-forest }
