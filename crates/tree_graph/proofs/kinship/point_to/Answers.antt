use Rattle.std.proofs.Common.{arith}
use Rattle.tree_graph.proofs.FirstFaults.{pointed-more}
use Rattle.tree_graph.proofs.kinship.point_to.Goals as goal

pub loop-node-preserved : goal.loop-node-preserved
loop-node-preserved c = pointed-more c.args.parent c.args.nodes.now c.args.parents.now c.loop-node.parents c.loop-node.node-index c.loop-node-test.true (omega (arith, c.requires c.loop-node.node-index 0 c.loop-node-test.true)) c.loop-node.invariant
