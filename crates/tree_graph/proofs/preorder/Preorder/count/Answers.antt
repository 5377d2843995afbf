use Rattle.std.proofs.Common.{arith}
use Rattle.tree_graph.proofs.WholeTree.{rows-few}
use Rattle.tree_graph.proofs.preorder.Preorder.count.Goals as goal

pub overflow_cast-result : goal.overflow_cast-result
overflow_cast-result c = omega (arith, c.len.ensures, c.self.inside.places.ok, rows-few _ _ c.self.invariant)
