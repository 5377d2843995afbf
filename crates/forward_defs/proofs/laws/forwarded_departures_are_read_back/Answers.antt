use Rattle.forward_defs.proofs.ReadBack.{forwarded-read_back}
use Rattle.forward_defs.proofs.laws.forwarded_departures_are_read_back.Goals as goal

pub returns : goal.returns
returns c = record { law = forwarded-read_back }
