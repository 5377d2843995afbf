use Rattle.pcapng_defs.proofs.Readings.{packets_are_few}
use Rattle.pcapng_defs.proofs.laws.packets_are_few.Goals as goal

pub returns : goal.returns
returns c = record { law = packets_are_few }
