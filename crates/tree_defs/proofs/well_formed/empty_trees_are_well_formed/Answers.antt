use Rattle.tree_defs.proofs.Laws.{empty_trees_are_well_formed-holds}
use Rattle.tree_defs.proofs.well_formed.empty_trees_are_well_formed.Goals as goal

pub returns : goal.returns
returns c = empty_trees_are_well_formed-holds
