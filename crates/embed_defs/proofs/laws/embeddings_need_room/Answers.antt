use Rattle.embed_defs.proofs.EmbeddingLaws.{embeddings_need_room-holds}
use Rattle.embed_defs.proofs.laws.embeddings_need_room.Goals as goal

pub returns : goal.returns
returns c = record { law = embeddings_need_room-holds }
