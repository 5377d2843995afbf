use Rattle.std.proofs.Common.{arith}
use Rattle.tree_graph.proofs.WholeTree.{levels-few}
use Rattle.tree_graph.proofs.preorder.Preorder.depth.Goals as goal

pub depth-requires : goal.depth-requires
depth-requires c = record { levels = levels-few _ _ c.self.invariant }

pub returns-clause-limit : goal.returns-clause-limit
returns-clause-limit c = omega (arith, c.depth.ensures.levels, levels-few _ _ c.self.invariant)
