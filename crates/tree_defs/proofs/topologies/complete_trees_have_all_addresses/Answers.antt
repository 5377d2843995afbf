use Rattle.tree_defs.proofs.Laws.{complete_trees_have_all_addresses-holds}
use Rattle.tree_defs.proofs.topologies.complete_trees_have_all_addresses.Goals as goal

pub returns : goal.returns
returns c = complete_trees_have_all_addresses-holds
