use Rattle.std.proofs.Common.{length}
use Rattle.size_core.proofs.queues.Queues.+push_along.Given as goal

abbrev pub decreases-push_along : goal.decreases-push_along
decreases-push_along l = length l.hops.now
