use Rattle.policy_rules.proofs.OneFault.{one-fault, accepted-fault}
use Rattle.policy_rules.proofs.laws.statements_have_one_fault.Goals as goal

pub returns-clause-fault : goal.returns-clause-fault
returns-clause-fault c = one-fault

pub returns-clause-accepted : goal.returns-clause-accepted
returns-clause-accepted c = accepted-fault
