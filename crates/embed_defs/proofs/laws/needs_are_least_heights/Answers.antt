use Rattle.embed_defs.proofs.EmbeddingLaws.{needs_are_least_heights-holds}
use Rattle.embed_defs.proofs.laws.needs_are_least_heights.Goals as goal

pub returns : goal.returns
returns c = record { law = needs_are_least_heights-holds }
