use Rattle.embed_defs.proofs.LiftLawProofs.{maps_stay as holds}
use Rattle.embed_defs.proofs.lift_laws.maps_stay.Goals as goal

pub returns : goal.returns
returns c = record { law = holds }
