use Rattle.tree_defs.proofs.Laws.{well_formed_at_each_inner_node-holds}
use Rattle.tree_defs.proofs.well_formed.well_formed_at_each_inner_node.Goals as goal

pub returns : goal.returns
returns c = well_formed_at_each_inner_node-holds
