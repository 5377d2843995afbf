use Rattle.policy_core.proofs.SomePolicy.{a_policy}
use Rattle.policy_core.proofs.text_laws.statements_give_a_policy.Goals as goal

pub returns : goal.returns
returns c = record { law = a_policy }
