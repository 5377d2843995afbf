use Rattle.summary_core.proofs.Prelude.{ℕ, length, arith, List, ap, list_at}
use Rattle.summary_core.proofs.Ranks.{length-more}
use Rattle.summary_core.proofs.delays.total.Goals as goal

pub loop-place-preserved : goal.loop-place-preserved
loop-place-preserved c =
    let f = list_at c.args.lists.now in
    let ms = c.args.members.now in
    let i = c.loop-place.place in
    let more = length-more f ms i 0 c.loop-place-test.true in
    let here = ap (λ (l : List ℕ). length l) c.list_of.ensures in
    record { count = omega (arith, c.loop-place.invariant.count, more, here); bound = omega (arith, c.loop-place.invariant.bound) }
