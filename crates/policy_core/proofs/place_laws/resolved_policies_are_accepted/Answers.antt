use Rattle.policy_core.proofs.AcceptedPolicies.{acceptable}
use Rattle.policy_core.proofs.place_laws.resolved_policies_are_accepted.Goals as goal

pub returns : goal.returns
returns c = record { law = acceptable }
