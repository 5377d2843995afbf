use Rattle.std.proofs.Common.{◌-◌, length, take, drop, arith}
use Rattle.report_core.proofs.Ranks.{few_others}
use Rattle.event_json.proofs.NumberLists.{with_first, with_one_more, with_all}
use Rattle.event_json.proofs.line.Line.numbers.Goals as goal

pub loop-value-init : goal.loop-value-init
loop-value-init c = record {
  text = with_first c.args.values.now c.args.self.now c.number.new.self c.in-len1-up.len_at_least c.number.ensures.text;
  short = omega (arith, c.number.ensures.short);
}

pub text-requires : goal.text-requires
text-requires c = record { room = omega (arith, c.loop-value.invariant.short, c.loop-value-test.true, few_others c.args.values.now c.requires.few, c.requires.room) }

pub number-requires-in-loop-value : goal.number-requires-in-loop-value
number-requires-in-loop-value c = record { room = omega (arith, c.text.ensures.length, c.loop-value.invariant.short, c.loop-value-test.true, few_others c.args.values.now c.requires.few, c.requires.room) }

pub loop-value-preserved : goal.loop-value-preserved
loop-value-preserved c =
    let others = take (length c.args.values.now - 1) (drop 1 c.args.values.now) in
    let comma = c.text.ensures in
    let number = c.number-in-loop-value.ensures in
    let so_far = c.loop-value.invariant in
    record {
      text = with_one_more others c.loop-value.self _ _ _ c.loop-value.value-index c.loop-value-test.true comma.text number.text so_far.text;
      short = omega (arith, number.short, comma.length, so_far.short);
    }

pub returns-clause-text : goal.returns-clause-text
returns-clause-text c =
    with_all (take (length c.args.values.now - 1) (drop 1 c.args.values.now)) c.loop-value.self _ c.loop-value.value-index c.loop-value-test.false c.loop-value.invariant.text

pub returns-clause-short : goal.returns-clause-short
returns-clause-short c = omega (arith, c.loop-value.invariant.short, c.loop-value.auto, few_others c.args.values.now c.requires.few)
