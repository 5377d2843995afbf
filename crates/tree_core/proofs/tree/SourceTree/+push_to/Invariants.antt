use Rattle.std.proofs.Common.{length}
use Rattle.tree_core.proofs.tree.SourceTree.+push_to.Given as goal

abbrev pub decreases-push_to : goal.decreases-push_to
decreases-push_to l = length l.address.now
