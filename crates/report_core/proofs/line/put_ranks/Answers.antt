use Rattle.std.proofs.Common.{◌++◌, ◌-◌, length, take, drop, arith, ap, ◌∙◌}
use Rattle.outside_core.specs.Report.{ranks_text}
use Rattle.report_core.proofs.Ranks.{few_others, with_first, with_one_more, with_all}
use Rattle.report_core.proofs.line.put_ranks.Goals as goal

pub loop-rank-init : goal.loop-rank-init
loop-rank-init c =
    let space = c.put_array-end.ensures in
    let number = c.put_number-end.ensures in
    record {
      text = with_first c.args.ranks.now (take c.put_array-end.result c.put_array-end.new.line) (take c.put_number-end.result c.put_number-end.new.line) c.in-len1-up.len_at_least number.text
          ∙ ap (λ s. s ++ ranks_text c.args.ranks.now) space.text;
      short = omega (arith, number.short, space.end);
      length = number.length ∙ space.length;
    }

pub put_array-end-requires-in-loop-rank : goal.put_array-end-requires-in-loop-rank
put_array-end-requires-in-loop-rank c = omega (arith, c.loop-rank.invariant.short, c.loop-rank.invariant.length, c.loop-rank-test.true, few_others c.args.ranks.now c.requires.few, c.requires.room)

pub put_number-end-requires-in-loop-rank : goal.put_number-end-requires-in-loop-rank
put_number-end-requires-in-loop-rank c = record { room = omega (arith, c.put_array-end-in-loop-rank.ensures.end, c.put_array-end-in-loop-rank.ensures.length, c.loop-rank.invariant.short, c.loop-rank.invariant.length, c.loop-rank-test.true, few_others c.args.ranks.now c.requires.few, c.requires.room) }

pub loop-rank-preserved : goal.loop-rank-preserved
loop-rank-preserved c =
    let others = take (length c.args.ranks.now - 1) (drop 1 c.args.ranks.now) in
    let byte = c.put_array-end-in-loop-rank.ensures in
    let number = c.put_number-end-in-loop-rank.ensures in
    let so_far = c.loop-rank.invariant in
    record {
      text = with_one_more others (take c.loop-rank.end c.loop-rank.line) _ _ _ c.loop-rank.rank-index c.loop-rank-test.true byte.text number.text so_far.text;
      short = omega (arith, number.short, byte.end, so_far.short);
      length = omega (arith, number.length, byte.length, so_far.length);
    }

pub returns-clause-text : goal.returns-clause-text
returns-clause-text c =
    with_all (take (length c.args.ranks.now - 1) (drop 1 c.args.ranks.now)) (take c.loop-rank.end c.loop-rank.line) _ c.loop-rank.rank-index c.loop-rank-test.false c.loop-rank.invariant.text

pub returns-clause-short : goal.returns-clause-short
returns-clause-short c = omega (arith, c.loop-rank.invariant.short, c.loop-rank.auto, few_others c.args.ranks.now c.requires.few)
