use Rattle.policy_core.proofs.OnePolicy.{one-policy}
use Rattle.policy_core.proofs.text_laws.statements_give_one_policy.Goals as goal

pub returns : goal.returns
returns c = record { law = one-policy }
