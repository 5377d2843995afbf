use Rattle.tree_core.proofs.Prelude.{arith, subst, IsWellFormed, TreeContents}
use Rattle.tree_core.proofs.PopSteps.{node_size}
use Rattle.tree_core.proofs.tree.SourceTree.size.Goals as goal

pub returns-clause-size : goal.returns-clause-size
returns-clause-size c = omega (arith, c.len.ensures, node_size c.self.inside.queue c.self.inside.children.items c.args.self.now c.self.view_is c.self.invariant)

pub returns-clause-well_formed : goal.returns-clause-well_formed
returns-clause-well_formed c = subst (λ (g : TreeContents). IsWellFormed g.tree) c.self.view_is c.self.invariant.well_formed
