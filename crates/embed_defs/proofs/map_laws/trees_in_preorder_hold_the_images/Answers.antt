use Rattle.embed_defs.proofs.PreorderTrees.{trees_in_preorder_hold_the_images}
use Rattle.embed_defs.proofs.map_laws.trees_in_preorder_hold_the_images.Goals as goal

pub returns : goal.returns
returns c = record { law = trees_in_preorder_hold_the_images }
