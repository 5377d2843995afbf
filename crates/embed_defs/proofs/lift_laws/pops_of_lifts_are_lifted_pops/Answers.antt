use Rattle.embed_defs.proofs.LiftLawProofs.{pops_of_lifts_are_lifted_pops as holds}
use Rattle.embed_defs.proofs.lift_laws.pops_of_lifts_are_lifted_pops.Goals as goal

pub returns : goal.returns
returns c = record { law = holds }
