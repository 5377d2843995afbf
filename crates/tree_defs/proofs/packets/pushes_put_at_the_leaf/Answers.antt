use Rattle.tree_defs.proofs.Laws.{pushes_put_at_the_leaf-holds}
use Rattle.tree_defs.proofs.packets.pushes_put_at_the_leaf.Goals as goal

pub returns : goal.returns
returns c = pushes_put_at_the_leaf-holds
