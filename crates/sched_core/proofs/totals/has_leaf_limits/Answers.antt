use Rattle.sched_core.proofs.Prelude.{arith}
use Rattle.sched_core.proofs.totals.has_leaf_limits.Goals as goal

pub loop-node-init : goal.loop-node-init
loop-node-init c = record { each = λ node l. absurd (omega (arith, l)) }

pub returns : goal.returns
returns c = record { limits = λ _. record { each = λ node l. c.loop-node.invariant.each node (omega (arith, l, c.loop-node.auto.node-end, c.loop-node-test.false, c.count-node-end.ensures.count)) } }
