use Rattle.summary_core.proofs.Prelude.{length, arith, ◌≤◌, ◌-◌, slice_index_or, IsNonDecreasingBy-from_sort}
use Rattle.summary_core.proofs.delays.last_of.Goals as goal

pub returns-in-Some : goal.returns-in-Some
returns-in-Some c = λ k d within.
    let xs = c.args.sorted.now in
    let up = IsNonDecreasingBy-from_sort (λ n. n) xs c.requires in
    let last : slice_index_or xs k d ≤ slice_index_or xs (length xs - 1) d = up k (length xs - 1) d (omega (arith, within)) (omega (arith, within)) in
    omega (arith, last, c.in-Some.ensures.item.3.1 d)
