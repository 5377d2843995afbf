use Rattle.embed_defs.proofs.RanksInWords.{lifted_ranks_are_of_the_deepest as holds}
use Rattle.embed_defs.proofs.lift_laws.lifted_ranks_are_of_the_deepest.Goals as goal

pub returns : goal.returns
returns c = record { law = holds }
