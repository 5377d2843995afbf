use Rattle.policy_rules.proofs.ClassicPolicies.{classic-policy}
use Rattle.policy_rules.proofs.laws.classic_statements_give_classic_policies.Goals as goal

pub returns : goal.returns
returns c = record { law = classic-policy }
