use Rattle.tree_defs.specs.Tree.{nodes}
use Rattle.tree_core.proofs.tree.SourceTree.+pop_onto.Given as goal

abbrev pub decreases-pop_onto : goal.decreases-pop_onto
decreases-pop_onto l = nodes l.self.now.tree
