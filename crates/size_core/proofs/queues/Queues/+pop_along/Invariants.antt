use Rattle.std.proofs.Common.{length}
use Rattle.size_core.proofs.queues.Queues.+pop_along.Given as goal

abbrev pub decreases-pop_along : goal.decreases-pop_along
decreases-pop_along l = length l.hops.now
