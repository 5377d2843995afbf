use Rattle.tree_defs.proofs.Laws.{pops_keep_the_topology-holds}
use Rattle.tree_defs.proofs.topologies.pops_keep_the_topology.Goals as goal

pub returns : goal.returns
returns c = pops_keep_the_topology-holds
