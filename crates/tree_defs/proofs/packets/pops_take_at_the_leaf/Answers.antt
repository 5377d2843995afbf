use Rattle.tree_defs.proofs.Laws.{pops_take_at_the_leaf-holds}
use Rattle.tree_defs.proofs.packets.pops_take_at_the_leaf.Goals as goal

pub returns : goal.returns
returns c = pops_take_at_the_leaf-holds
