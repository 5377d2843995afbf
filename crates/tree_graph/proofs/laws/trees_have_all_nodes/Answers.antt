use Rattle.tree_graph.proofs.WholeTree.{size-is}
use Rattle.tree_graph.proofs.laws.trees_have_all_nodes.Goals as goal

pub returns : goal.returns
returns c = record { law = size-is }
