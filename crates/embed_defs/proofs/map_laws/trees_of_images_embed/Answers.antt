use Rattle.embed_defs.proofs.ComposedMaps.{trees_of_images_embed}
use Rattle.embed_defs.proofs.map_laws.trees_of_images_embed.Goals as goal

pub returns : goal.returns
returns c = record { law = trees_of_images_embed }
