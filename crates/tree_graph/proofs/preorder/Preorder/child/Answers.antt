use Rattle.std.proofs.Common.{arith, slice_index}
use Rattle.tree_graph.proofs.PreorderLaws.{IsChildRow}
use Rattle.tree_graph.proofs.WholeTree.{child-found, child-address}
use Rattle.tree_graph.proofs.preorder.Preorder.child.Goals as goal

pub returns-clause-later : goal.returns-clause-later
returns-clause-later c =
    let found : IsChildRow 0 c.args.self.now.rows c.args.number c.args.digit (slice_index c.children.result.now c.args.digit) = child-found c.args.self.now _ _ c.index.result.now _ c.args.number c.args.digit c.self.view_is c.self.invariant c.requires.there c.requires.child c.index.ensures c.children.ensures.children in
    omega (arith, found.later)

pub returns-clause-within : goal.returns-clause-within
returns-clause-within c =
    let found : IsChildRow 0 c.args.self.now.rows c.args.number c.args.digit (slice_index c.children.result.now c.args.digit) = child-found c.args.self.now _ _ c.index.result.now _ c.args.number c.args.digit c.self.view_is c.self.invariant c.requires.there c.requires.child c.index.ensures c.children.ensures.children in
    omega (arith, found.within)

pub returns-clause-address : goal.returns-clause-address
returns-clause-address c =
    child-address c.args.self.now.rows c.args.number c.args.digit (slice_index c.children.result.now c.args.digit)
    (child-found c.args.self.now _ _ c.index.result.now _ c.args.number c.args.digit c.self.view_is c.self.invariant c.requires.there c.requires.child c.index.ensures c.children.ensures.children)
