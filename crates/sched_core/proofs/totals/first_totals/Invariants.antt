use Rattle.sched_core.proofs.FirstTotals.{AreFirstTotals}
use Rattle.sched_core.proofs.totals.first_totals.Given as goal

abbrev pub invariant-loop-node : goal.invariant-loop-node
invariant-loop-node l = AreFirstTotals l.policy.policy l.totals.items l.node
