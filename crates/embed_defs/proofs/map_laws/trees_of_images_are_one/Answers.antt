use Rattle.embed_defs.proofs.TreesOfImages.{trees_of_images_are_one}
use Rattle.embed_defs.proofs.map_laws.trees_of_images_are_one.Goals as goal

pub returns : goal.returns
returns c = record { law = trees_of_images_are_one }
