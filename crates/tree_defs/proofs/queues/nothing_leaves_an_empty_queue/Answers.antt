use Rattle.tree_defs.proofs.TakeLeast.{nothing_leaves}
use Rattle.tree_defs.proofs.queues.nothing_leaves_an_empty_queue.Goals as goal

pub returns : goal.returns
returns c = nothing_leaves
