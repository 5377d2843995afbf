use Rattle.summary_core.proofs.Prelude.{arith, ◌+◌, ◌-◌, ◌/◌, list_at, listed}
use Rattle.summary_core.proofs.Ranks.{count-le}
use Rattle.summary_core.proofs.delays.at_rank.Goals as goal

pub loop-low-preserved : goal.loop-low-preserved
loop-low-preserved c =
    let all = listed (list_at c.args.lists.now) c.args.members.now in
    let middle = c.loop-low.low + (c.loop-low.high - c.loop-low.low) / 2 in
    record {
      order = omega (arith, c.loop-low-test.true);
      enough = c.loop-low.invariant.enough;
      fewer = λ lower less. omega (arith, count-le lower middle all (omega (arith, less)), c.if-rank-count_all.false, c.count_all.ensures);
    }
