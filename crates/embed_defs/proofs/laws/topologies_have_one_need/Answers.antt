use Rattle.embed_defs.proofs.EmbeddingLaws.{topologies_have_one_need-holds}
use Rattle.embed_defs.proofs.laws.topologies_have_one_need.Goals as goal

pub returns : goal.returns
returns c = record { law = topologies_have_one_need-holds }
