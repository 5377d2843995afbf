use Rattle.embed_defs.proofs.LiftLawProofs.{pushes_of_lifts_are_lifts as holds}
use Rattle.embed_defs.proofs.lift_laws.pushes_of_lifts_are_lifts.Goals as goal

pub returns : goal.returns
returns c = record { law = holds }
