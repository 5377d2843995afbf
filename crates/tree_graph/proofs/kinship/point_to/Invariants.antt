use Rattle.tree_graph.proofs.Prelude.{take, ArePointed}
use Rattle.tree_graph.proofs.kinship.point_to.Given as goal

abbrev pub invariant-loop-node : goal.invariant-loop-node
invariant-loop-node l = ArePointed l.parent (take l.node-index l.nodes) l.fn.parents l.parents
