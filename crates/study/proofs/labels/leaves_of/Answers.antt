use Rattle.std.proofs.Common.{ap, arith, length}
use Rattle.study.proofs.LabelLaws.{few_labels}
use Rattle.study.proofs.labels.leaves_of.Goals as goal

pub overflow_cast-len : goal.overflow_cast-len
overflow_cast-len c =
    let few = few_labels c.args.policy.now.policy.tree c.loop-node.node in
    omega (arith, c.len.ensures, few, ap length c.loop-node.invariant.0, c.loop-node-test.true, c.count-node-end.ensures.limit)
