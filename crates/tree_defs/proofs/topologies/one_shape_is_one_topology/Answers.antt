use Rattle.tree_defs.proofs.Laws.{one_shape_is_one_topology-holds}
use Rattle.tree_defs.proofs.topologies.one_shape_is_one_topology.Goals as goal

pub returns : goal.returns
returns c = one_shape_is_one_topology-holds
