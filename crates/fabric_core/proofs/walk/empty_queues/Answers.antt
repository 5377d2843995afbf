use Rattle.fabric_core.proofs.Prelude.{arith, ◌+◌, get_or, ◌*◌, length, map, mul-le-mul_left}
use Rattle.embed_defs.proofs.LeafCounts.{narrow_at, counted_next, few_wide}
use Rattle.fabric_core.proofs.NodeCounts.{next_count}
use Rattle.fabric_core.proofs.LevelSteps.{flows_next, flows_last}
use Rattle.fabric_core.proofs.walk.empty_queues.Goals as goal

pub overflow_mul-width : goal.overflow_mul-width
overflow_mul-width g c =
    let l = c.loop-arity in
    let ds = c.args.arities.now in
    omega (arith, c.requires.target.few, few_wide ds (l.arity-index + 1) (l.width * get_or ds l.arity-index 0) c.requires.target.narrow (counted_next ds l.arity-index l.width c.loop-arity-test.true l.invariant.leaves))

pub loop-arity-preserved : goal.loop-arity-preserved
loop-arity-preserved g c =
    let l = c.loop-arity in
    let ds = c.args.arities.now in
    let added = c.in_ok-add_level.ensures in
    record {
      counted = rw added.long (next_count ds l.arity-index (length l.queues.items) l.width c.loop-arity-test.true l.invariant.counted);
      leaves = counted_next ds l.arity-index l.width c.loop-arity-test.true l.invariant.leaves;
      before = omega (arith, added.long, l.invariant.before, c.requires.target.few, few_wide ds l.arity-index l.width c.requires.target.narrow l.invariant.leaves);
      some = omega (arith, l.invariant.some, mul-le-mul_left l.width (narrow_at ds l.arity-index 0 c.requires.target.narrow c.loop-arity-test.true).0);
      entries = added.entries l.invariant.entries;
      pushes = added.pushes l.invariant.pushes;
      flows = λ t. flows_next ds (map g.Q.NodeQueue.flows l.queues.items) (map g.Q.NodeQueue.flows c.add_level.new.queues.items) l.arity-index (length l.queues.items) l.width (length c.add_level.new.queues.items) c.loop-arity-test.true (l.invariant.flows t)
          added.kept
          (λ j k m. added.flows t j k (omega (arith, m, added.long)))
          added.long;
    }

pub returns-clause-flows : goal.returns-clause-flows
returns-clause-flows g c t =
    let l = c.loop-arity in
    let added = c.in_ok-add_level-2.ensures in
    flows_last c.args.arities.now (map g.Q.NodeQueue.flows l.queues.items) (map g.Q.NodeQueue.flows c.add_level-2.new.queues.items) l.arity-index (length l.queues.items) l.width (omega (arith, c.loop-arity-test.false)) (l.invariant.flows t)
    added.kept
    (λ j k m. added.flows t j k (omega (arith, m, added.long)))
