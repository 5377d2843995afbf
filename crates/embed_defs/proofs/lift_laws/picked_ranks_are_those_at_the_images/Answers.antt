use Rattle.embed_defs.proofs.RanksInWords.{picked_ranks_are_those_at_the_images as holds}
use Rattle.embed_defs.proofs.lift_laws.picked_ranks_are_those_at_the_images.Goals as goal

pub returns : goal.returns
returns c = record { law = holds }
