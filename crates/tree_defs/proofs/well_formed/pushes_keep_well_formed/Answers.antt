use Rattle.tree_defs.proofs.Laws.{pushes_keep_well_formed-holds}
use Rattle.tree_defs.proofs.well_formed.pushes_keep_well_formed.Goals as goal

pub returns : goal.returns
returns c = pushes_keep_well_formed-holds
