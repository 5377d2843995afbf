use Rattle.forward_defs.proofs.KeptBytes.{records_are_forwarded}
use Rattle.forward_defs.proofs.laws.records_in_turn_are_forwarded.Goals as goal

pub returns : goal.returns
returns c = record { law = records_are_forwarded }
