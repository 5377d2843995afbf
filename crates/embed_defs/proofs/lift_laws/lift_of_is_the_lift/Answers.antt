use Rattle.embed_defs.proofs.SpillsOfLifts.{lift_of_is_the_lift as holds}
use Rattle.embed_defs.proofs.lift_laws.lift_of_is_the_lift.Goals as goal

pub returns : goal.returns
returns c = record { law = holds }
