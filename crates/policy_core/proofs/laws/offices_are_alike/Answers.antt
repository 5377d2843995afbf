use Rattle.policy_core.proofs.OfficeTree.{offices-alike}
use Rattle.policy_core.proofs.laws.offices_are_alike.Goals as goal

pub returns : goal.returns
returns c = record { law = offices-alike }
