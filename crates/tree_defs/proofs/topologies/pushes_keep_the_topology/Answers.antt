use Rattle.tree_defs.proofs.Laws.{pushes_keep_the_topology-holds}
use Rattle.tree_defs.proofs.topologies.pushes_keep_the_topology.Goals as goal

pub returns : goal.returns
returns c = pushes_keep_the_topology-holds
