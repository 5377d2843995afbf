use Rattle.tree_defs.proofs.TakeLeast.{earliest_of_the_least}
use Rattle.tree_defs.proofs.queues.earliest_of_the_least_leaves.Goals as goal

pub returns : goal.returns
returns c = earliest_of_the_least
