use Rattle.tree_defs.proofs.Laws.{pops_keep_well_formed-holds}
use Rattle.tree_defs.proofs.well_formed.pops_keep_well_formed.Goals as goal

pub returns : goal.returns
returns c = pops_keep_well_formed-holds
