use Rattle.tree_defs.proofs.Laws.{empty_trees_hold_nothing-holds}
use Rattle.tree_defs.proofs.packets.empty_trees_hold_nothing.Goals as goal

pub returns : goal.returns
returns c = empty_trees_hold_nothing-holds
