use Rattle.tree_graph.proofs.MarkLemmas.{seen-at, new-at}
use Rattle.tree_graph.proofs.descendants.mark_all.Goals as goal
use Rattle.tree_graph.proofs.descendants.mark_all.Goals.{then-not-marks-node+in_ok-push, else-not-marks-node}
use Rattle.std.proofs.Common.{◌<◌, get_or, length, arith}

pub loop-node-preserved : goal.loop-node-preserved
loop-node-preserved c =
    elim c.if-not-marks-node.branch [
      | then-not-marks-node+in_ok-push w ↦ (
          let within : get_or c.args.nodes.now c.loop-node.node-index 0 < length c.loop-node.marks = omega (arith, c.requires c.loop-node.node-index 0 c.loop-node-test.true, c.loop-node.auto.marks) in
          new-at c.args.nodes.now c.loop-node.node-index _ _ _ _ c.loop-node.work c.if-not-marks-node.work w.push.new.self c.loop-node-test.true c.loop-node.invariant w.if-not-marks-node.true within w.marks-is w.work-is w.in_ok-push.ensures.items)
      | else-not-marks-node w ↦ seen-at c.args.nodes.now c.loop-node.node-index _ _ _ _ c.loop-node.work c.if-not-marks-node.work c.loop-node-test.true c.loop-node.invariant w.if-not-marks-node.false w.marks-is w.work-is
    ]
