use Rattle.tree_defs.proofs.Laws.{pushes_add_one-holds}
use Rattle.tree_defs.proofs.packets.pushes_add_one.Goals as goal

pub returns : goal.returns
returns c = pushes_add_one-holds
