use Rattle.tree_graph.proofs.Prelude.{arith, below_more, lists}
use Rattle.tree_graph.proofs.FirstFaults.{not-below}
use Rattle.tree_graph.proofs.descendants.first_on_cycle.Goals as goal

pub loop-node-preserved : goal.loop-node-preserved
loop-node-preserved c =
    below_more _ _ c.loop-node.invariant (not-below (lists c.args.graph.now) c.loop-node.node c.in_ok-marks.marks.items c.index.result.now (omega (arith, c.in_ok-marks.ensures.len)) c.index.ensures c.if-index.false (c.in_ok-marks.ensures.marks c.loop-node.node))

pub returns : goal.returns
returns c = record { first = λ a l. c.loop-node.invariant a (omega (arith, l)) }
