use Rattle.std.proofs.Common.{arith, ◌∙◌}
use Rattle.std.proofs.lemmas.List.{length-set}
use Rattle.std.proofs.lemmas.Option.{slice_get_within}
use Rattle.sched_core.proofs.TotalsLaws.{node-inside, room-made, totals-as_before}
use Rattle.sched_core.proofs.totals.reserve_along.Goals as goal

pub bounds-nodes-path : goal.bounds-nodes-path
bounds-nodes-path c = node-inside c.args.path.now c.loop-level.level _ (omega (arith, c.loop-level-test.true)) _ _ c.requires.inside c.loop-level.invariant.count

pub returns-in_err-reserve-clause-totals : goal.returns-in_err-reserve-clause-totals
returns-in_err-reserve-clause-totals c = λ policy values h.
    totals-as_before c.args.path.now c.loop-level.level _ (omega (arith, c.loop-level-test.true)) _ _ (node-inside c.args.path.now c.loop-level.level _ (omega (arith, c.loop-level-test.true)) _ _ c.requires.inside c.loop-level.invariant.count) _ c.reserve.ensures.limits c.reserve.ensures.group policy values
    c.reserve.ensures.amounts (c.loop-level.invariant.totals policy values h)

pub loop-level-preserved : goal.loop-level-preserved
loop-level-preserved c =
    record {
      count = length-set _ _ _ ∙ c.loop-level.invariant.count;
      totals = λ policy values h.
          totals-as_before c.args.path.now c.loop-level.level _ (omega (arith, c.loop-level-test.true)) _ _ (node-inside c.args.path.now c.loop-level.level _ (omega (arith, c.loop-level-test.true)) _ _ c.requires.inside c.loop-level.invariant.count) _ c.reserve.ensures.limits c.reserve.ensures.group policy values
          c.reserve.ensures.amounts (c.loop-level.invariant.totals policy values h);
      room = room-made c.args.path.now c.loop-level.level _ (omega (arith, c.loop-level-test.true)) _ c.index-nodes-path.result (node-inside c.args.path.now c.loop-level.level _ (omega (arith, c.loop-level-test.true)) _ _ c.requires.inside c.loop-level.invariant.count) _ c.args.packet.now c.in_ok-reserve.ensures.room c.loop-level.invariant.room;
    }

pub returns-clause-room : goal.returns-clause-room
returns-clause-room c = λ level w x from at got. c.loop-level.invariant.room level w x (omega (arith, slice_get_within c.args.path.now level w at, c.loop-level-test.false)) at got
