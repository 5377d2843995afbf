use Rattle.std.proofs.Common.{length}
use Rattle.sched_core.proofs.first.+arity.Given as goal

abbrev pub decreases-arity : goal.decreases-arity
decreases-arity l = length l.address.now
