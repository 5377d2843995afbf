use Rattle.policy_core.proofs.FaultlessStatements.{accepted}
use Rattle.policy_core.proofs.text_laws.faultless_are_accepted.Goals as goal

pub returns : goal.returns
returns c = record { law = accepted }
