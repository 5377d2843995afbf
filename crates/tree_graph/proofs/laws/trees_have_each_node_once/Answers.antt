use Rattle.tree_graph.proofs.NodesOnce.{each_once}
use Rattle.tree_graph.proofs.laws.trees_have_each_node_once.Goals as goal

pub returns : goal.returns
returns c = record { law = each_once }
