use Rattle.summary_core.proofs.Prelude.{ℕ, arith, List, ap, list_at, count_to}
use Rattle.summary_core.proofs.Ranks.{counted-more}
use Rattle.summary_core.proofs.delays.count_all.Goals as goal

pub loop-place-preserved : goal.loop-place-preserved
loop-place-preserved c =
    let f = list_at c.args.lists.now in
    let ms = c.args.members.now in
    let i = c.loop-place.place in
    let more = counted-more c.args.bound f ms i 0 c.loop-place-test.true in
    let here = ap (λ (l : List ℕ). count_to c.args.bound l) c.list_of.ensures in
    record { count = omega (arith, c.loop-place.invariant.count, more, here, c.count_to.ensures); bound = omega (arith, c.loop-place.invariant.bound, c.count_to.type_inv) }
