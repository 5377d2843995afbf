use Rattle.tree_graph.proofs.OneTree.{one-tree}
use Rattle.tree_graph.proofs.laws.graphs_have_one_tree.Goals as goal

pub returns : goal.returns
returns c = record { law = one-tree }
