use Rattle.tree_defs.proofs.Laws.{nothing_is_popped_from_an_empty_root-holds}
use Rattle.tree_defs.proofs.well_formed.nothing_is_popped_from_an_empty_root.Goals as goal

pub returns : goal.returns
returns c = nothing_is_popped_from_an_empty_root-holds
