use Rattle.tree_graph.proofs.Steps.{reached}
use Rattle.tree_graph.proofs.laws.nodes_are_reached.Goals as goal

pub returns : goal.returns
returns c = record { law = λ g root a forest within. reached g root a forest within }
