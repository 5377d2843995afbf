use Rattle.std.proofs.Common.{arith, ◌∙◌, refl}
use Rattle.std.proofs.lemmas.List.{length-set}
use Rattle.sched_core.specs.NodeTotals.{lowered}
use Rattle.sched_core.proofs.TotalsLaws.{node-inside, totals-fewer, none-changed, all-changed}
use Rattle.sched_core.proofs.totals.take_along.Goals as goal

pub loop-level-init : goal.loop-level-init
loop-level-init c = record {
  count = refl;
  totals = λ policy leaf values leads is h. none-changed policy leaf (λ group. lowered group c.args.packet.now) values _ h;
}

pub bounds-nodes-path : goal.bounds-nodes-path
bounds-nodes-path c = node-inside c.args.path.now c.loop-level.level _ (omega (arith, c.loop-level-test.true)) _ _ c.requires.inside c.loop-level.invariant.count

pub loop-level-preserved : goal.loop-level-preserved
loop-level-preserved c =
    record {
      count = length-set _ _ _ ∙ c.loop-level.invariant.count;
      totals = λ policy leaf values leads is h.
          totals-fewer c.args.path.now c.loop-level.level _ (omega (arith, c.loop-level-test.true)) _ _ (node-inside c.args.path.now c.loop-level.level _ (omega (arith, c.loop-level-test.true)) _ _ c.requires.inside c.loop-level.invariant.count) _ c.take.ensures.limits c.take.ensures.group
          policy leaf (λ group. lowered group c.args.packet.now) values leads is c.take.ensures.amounts (c.loop-level.invariant.totals policy leaf values leads is h);
    }

pub returns-clause-totals : goal.returns-clause-totals
returns-clause-totals c = λ policy leaf values leads is h.
    all-changed policy leaf (λ group. lowered group c.args.packet.now) values _ c.loop-level.level (omega (arith, is.count, c.loop-level-test.false)) (c.loop-level.invariant.totals policy leaf values leads is h)
