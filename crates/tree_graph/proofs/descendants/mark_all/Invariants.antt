use Rattle.tree_graph.proofs.Prelude.{take, MarksMore}
use Rattle.tree_graph.proofs.descendants.mark_all.Given as goal

abbrev pub invariant-loop-node : goal.invariant-loop-node
invariant-loop-node l = MarksMore (take l.node-index l.nodes) l.fn.marks l.fn.work.items l.marks l.work.items
