use Rattle.sched_core.proofs.Prelude.{arith}
use Rattle.sched_core.proofs.FirstTotals.{totals-more, totals-made}
use Rattle.sched_core.proofs.totals.first_totals.Goals as goal

pub loop-node-preserved : goal.loop-node-preserved
loop-node-preserved c =
    totals-more c.args.policy.now.policy c.loop-node.totals.items c.push.new.self.items c.loop-node.node c.new.result c.limits.result c.group.result c.loop-node.invariant c.in_ok-push.ensures.items
    c.new.ensures.limits c.limits.ensures.limits c.new.ensures.group c.group.ensures.group c.new.ensures.nothing

pub returns : goal.returns
returns c = record {
  totals = totals-made c.args.policy.now.policy c.loop-node.totals.items c.loop-node.node (omega (arith, c.loop-node.auto.node-end, c.loop-node-test.false, c.count-count.ensures.count)) c.loop-node.invariant;
}
