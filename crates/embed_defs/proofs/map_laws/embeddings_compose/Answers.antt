use Rattle.embed_defs.proofs.ComposedMaps.{embeddings_compose}
use Rattle.embed_defs.proofs.map_laws.embeddings_compose.Goals as goal

pub returns : goal.returns
returns c = record { law = embeddings_compose }
