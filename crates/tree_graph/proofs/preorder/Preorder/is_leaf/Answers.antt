use Rattle.tree_graph.proofs.WholeTree.{leaf-tested}
use Rattle.tree_graph.proofs.preorder.Preorder.is_leaf.Goals as goal

pub returns-clause-leaf_address : goal.returns-clause-leaf_address
returns-clause-leaf_address c = leaf-tested c.args.self.now _ _ c.index.result.now c.children.result.now c.args.number c.is_empty.result c.self.view_is c.self.invariant c.requires.there c.index.ensures c.children.ensures.children c.is_empty.ensures
