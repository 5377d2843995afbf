use Rattle.tree_graph.specs.Descent.{lists}
use Rattle.tree_graph.proofs.ParentLemmas.{ArePointedTo}
use Rattle.tree_graph.proofs.kinship.parents.Given as goal

abbrev pub invariant-loop-node : goal.invariant-loop-node
invariant-loop-node l = ArePointedTo (lists l.graph) l.node l.parents.items
