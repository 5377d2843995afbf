use Rattle.policy_core.proofs.NodeNames.{name-found}
use Rattle.policy_core.proofs.policy.PolicyNodeNames.name.Goals as goal

pub returns : goal.returns
returns c = record { name = λ a there is. name-found c.args.self.now.policy a c.args.node c.name.result.now there is c.name.ensures.name }
