use Rattle.std.proofs.Common.{arith, ◌∙◌, refl, take}
use Rattle.std.proofs.lemmas.List.{length-set}
use Rattle.sched_core.specs.NodeTotals.{raised}
use Rattle.sched_core.proofs.TotalsLaws.{node-inside, room-here, room-left, totals-next, none-changed, all-changed}
use Rattle.sched_core.proofs.totals.add_along.Goals as goal

pub loop-level-init : goal.loop-level-init
loop-level-init c = record {
  count = refl;
  room = c.requires.room;
  totals = λ policy leaf values leads is h few. none-changed policy leaf (λ group. raised group c.args.packet.now) values _ h;
}

pub bounds-nodes-path : goal.bounds-nodes-path
bounds-nodes-path c = node-inside c.args.path.now c.loop-level.level _ (omega (arith, c.loop-level-test.true)) _ _ c.requires.inside c.loop-level.invariant.count

pub add-requires : goal.add-requires
add-requires c = record {
  room = room-here c.args.path.now c.loop-level.level _ (omega (arith, c.loop-level-test.true)) _ _ (node-inside c.args.path.now c.loop-level.level _ (omega (arith, c.loop-level-test.true)) _ _ c.requires.inside c.loop-level.invariant.count) c.args.packet.now c.loop-level.invariant.room;
}

pub loop-level-preserved : goal.loop-level-preserved
loop-level-preserved c =
    record {
      count = length-set _ _ _ ∙ c.loop-level.invariant.count;
      room = room-left c.args.path.now c.loop-level.level _ (omega (arith, c.loop-level-test.true)) _ c.index-nodes-path.result (node-inside c.args.path.now c.loop-level.level _ (omega (arith, c.loop-level-test.true)) _ _ c.requires.inside c.loop-level.invariant.count) _ c.args.packet.now c.requires.apart c.loop-level.invariant.room;
      totals = λ policy leaf values leads is h few.
          totals-next c.args.path.now c.loop-level.level _ (omega (arith, c.loop-level-test.true)) _ _ (node-inside c.args.path.now c.loop-level.level _ (omega (arith, c.loop-level-test.true)) _ _ c.requires.inside c.loop-level.invariant.count) _ c.add.ensures.limits c.add.ensures.group
          policy leaf (λ group. raised group c.args.packet.now) values leads is (λ v f a. c.add.ensures.amounts v a f) (few (take c.loop-level.level leaf)) (c.loop-level.invariant.totals policy leaf values leads is h few);
    }

pub returns-clause-totals : goal.returns-clause-totals
returns-clause-totals c = λ policy leaf values leads is h few.
    all-changed policy leaf (λ group. raised group c.args.packet.now) values _ c.loop-level.level (omega (arith, is.count, c.loop-level-test.false)) (c.loop-level.invariant.totals policy leaf values leads is h few)
