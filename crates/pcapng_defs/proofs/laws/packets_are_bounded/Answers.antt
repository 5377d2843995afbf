use Rattle.pcapng_defs.proofs.Readings.{packets_are_bounded}
use Rattle.pcapng_defs.proofs.laws.packets_are_bounded.Goals as goal

pub returns : goal.returns
returns c = record { law = packets_are_bounded }
