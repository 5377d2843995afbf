use Rattle.summary_core.proofs.KeptTimestamps.{events_told}
use Rattle.summary_core.proofs.laws.kept_timestamps_are_those_of_the_packets.Goals as goal

pub returns : goal.returns
returns c = λ policy rate events accepted can. events_told policy accepted rate events can
