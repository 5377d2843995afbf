use Rattle.embed_defs.proofs.LiftLawProofs.{lifts_are_one as holds}
use Rattle.embed_defs.proofs.lift_laws.lifts_are_one.Goals as goal

pub returns : goal.returns
returns c = record { law = holds }
