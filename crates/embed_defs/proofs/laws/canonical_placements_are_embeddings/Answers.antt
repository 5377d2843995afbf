use Rattle.embed_defs.proofs.EmbeddingLaws.{canonical_placements_are_embeddings-holds}
use Rattle.embed_defs.proofs.laws.canonical_placements_are_embeddings.Goals as goal

pub returns : goal.returns
returns c = record { law = canonical_placements_are_embeddings-holds }
