use Rattle.tree_graph.proofs.Steps.{one_depth}
use Rattle.tree_graph.proofs.laws.nodes_have_one_depth.Goals as goal

pub returns : goal.returns
returns c = record { law = λ g root j k a forest first second. one_depth g root forest j k a first second }
