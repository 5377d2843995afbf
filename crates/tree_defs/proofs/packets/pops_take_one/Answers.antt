use Rattle.tree_defs.proofs.Laws.{pops_take_one-holds}
use Rattle.tree_defs.proofs.packets.pops_take_one.Goals as goal

pub returns : goal.returns
returns c = pops_take_one-holds
