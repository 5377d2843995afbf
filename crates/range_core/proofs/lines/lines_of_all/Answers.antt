use Rattle.range_core.proofs.Prelude.{map, take, add-one, entry, entries, program_of, assignments, IsShaped}
use Rattle.range_core.proofs.LeastLines.{entries-next, all-at}
use Rattle.range_core.proofs.lines.lines_of_all.Goals as goal

pub lines_of_both-requires : goal.lines_of_both-requires
lines_of_both-requires c =
    all-at IsShaped c.args.transactions.now c.loop-transaction.transaction-index c.transaction-item.result c.transaction-item.is c.loop-transaction-test.true c.requires

pub loop-transaction-preserved : goal.loop-transaction-preserved
loop-transaction-preserved c =
    let p = program_of c.transaction-item.result
    in let seen = entries (map program_of (take c.loop-transaction.transaction-index c.args.transactions.now))
    in let next = entries-next c.args.transactions.now c.loop-transaction.transaction-index c.transaction-item.result c.transaction-item.is c.loop-transaction-test.true
    in rw (add-one, next) (c.and-lines.ensures seen (map (entry p) (assignments p)) c.loop-transaction.invariant c.lines_of_both.ensures)
