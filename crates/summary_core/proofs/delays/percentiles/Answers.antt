use Rattle.summary_core.proofs.Prelude.{length, arith, ◌<◌, list_at, listed}
use Rattle.summary_core.proofs.Selected.{are_percentiles}
use Rattle.summary_core.proofs.delays.percentiles.Goals as goal

pub returns : goal.returns
returns c =
    let delays = listed (list_at c.args.lists.now) c.args.members.now in
    let some : 0 < length delays = omega (arith, c.if-count-eq0.false, c.total-count.ensures) in
    are_percentiles delays _ some c.at_rank.ensures c.at_percent.ensures c.at_percent-2.ensures c.at_percent-3.ensures c.at_percent-4.ensures
