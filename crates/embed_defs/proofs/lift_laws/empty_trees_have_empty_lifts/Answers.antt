use Rattle.embed_defs.proofs.LiftLawProofs.{empty_trees_have_empty_lifts as holds}
use Rattle.embed_defs.proofs.lift_laws.empty_trees_have_empty_lifts.Goals as goal

pub returns : goal.returns
returns c = record { law = holds }
