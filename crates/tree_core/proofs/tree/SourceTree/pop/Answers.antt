use Rattle.tree_core.proofs.PlaceLaws.{no_fewer}
use Rattle.tree_core.proofs.tree.SourceTree.pop.Goals as goal

pub returns-then-size-eq0-clause-spare : goal.returns-then-size-eq0-clause-spare
returns-then-size-eq0-clause-spare c = no_fewer c.args.self.now.spare
