use Rattle.tree_graph.proofs.Prelude.{arith, topology}
use Rattle.tree_graph.proofs.Shapes.{branch-some}
use Rattle.tree_graph.proofs.growth.shape.Goals as goal

pub returns-else-is_empty : goal.returns-else-is_empty
returns-else-is_empty c = record { topology = branch-some topology c.args.children.items c.args.children.len c.is_empty.result _ c.is_empty.ensures c.if-is_empty.false (omega (arith, c.args.children.ok)) c.inner.ensures.topology }
