use Rattle.policy_core.proofs.ResolvedTrees.{node-tree}
use Rattle.policy_core.proofs.place_laws.graphs_give_the_tree.Goals as goal

pub returns : goal.returns
returns c = record { law = node-tree }
