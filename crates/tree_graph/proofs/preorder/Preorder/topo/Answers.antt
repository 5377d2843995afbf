use Rattle.tree_graph.proofs.Prelude.{arith, ap, depth, Numbered}
use Rattle.tree_graph.proofs.WholeTree.{levels-few}
use Rattle.tree_graph.proofs.preorder.Preorder.topo.Goals as goal

pub returns-clause-levels : goal.returns-clause-levels
returns-clause-levels c = omega (arith, ap (λ (n : Numbered). depth n.topology) c.self.view_is, levels-few _ _ c.self.invariant)
