use Rattle.summary_core.proofs.PartDelays.{delays_of_departures}
use Rattle.summary_core.proofs.laws.delays_are_those_of_the_departures.Goals as goal

pub returns : goal.returns
returns c = delays_of_departures
