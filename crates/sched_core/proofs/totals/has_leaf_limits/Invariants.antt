use Rattle.sched_core.specs.Totals.{HaveLeafLimits}
use Rattle.sched_core.proofs.totals.has_leaf_limits.Given as goal

abbrev pub invariant-loop-node : goal.invariant-loop-node
invariant-loop-node l = HaveLeafLimits l.policy.policy l.node
