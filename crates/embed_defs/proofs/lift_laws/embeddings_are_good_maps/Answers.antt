use Rattle.embed_defs.proofs.EmbeddedMaps.{embeddings_are_good_maps as holds}
use Rattle.embed_defs.proofs.lift_laws.embeddings_are_good_maps.Goals as goal

pub returns : goal.returns
returns c = record { law = holds }
