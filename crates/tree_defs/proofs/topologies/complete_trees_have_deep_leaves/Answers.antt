use Rattle.tree_defs.proofs.Laws.{complete_trees_have_deep_leaves-holds}
use Rattle.tree_defs.proofs.topologies.complete_trees_have_deep_leaves.Goals as goal

pub returns : goal.returns
returns c = complete_trees_have_deep_leaves-holds
