use Rattle.embed_defs.proofs.SpillsOfLifts.{spills_of_lifts as holds}
use Rattle.embed_defs.proofs.lift_laws.spills_of_lifts.Goals as goal

pub returns : goal.returns
returns c = record { law = holds }
