use Rattle.policy_core.proofs.OfficeStatements.{office-accepted}
use Rattle.policy_core.proofs.laws.the_office_is_accepted.Goals as goal

pub returns : goal.returns
returns c = record { law = office-accepted }
