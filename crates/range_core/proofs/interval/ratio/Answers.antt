use Rattle.range_core.proofs.Prelude.{rules, ◌≡◌, FitsSigned, false, to_z-of_z, w128, at_four, holds_zero}
use Rattle.range_core.proofs.interval.ratio.Goals as goal

pub returns : goal.returns
returns c =
    let z : holds_zero c.args.s ≡ false = search rules
    in let f : FitsSigned w128 c.args.r.low = search rules
    in let g : FitsSigned w128 c.args.r.high = search rules
    in let h : FitsSigned w128 c.args.s.low = search rules
    in let k : FitsSigned w128 c.args.s.high = search rules
    in let m = simp to_z-of_z at c.quotient-a.ensures
    in let n = simp to_z-of_z at c.quotient-b.ensures
    in let o = simp to_z-of_z at c.quotient-c.ensures
    in let p = simp to_z-of_z at c.quotient-d.ensures
    in rw (z, ← m, ← n, ← o, ← p) (at_four _ c.quotient-a.result c.quotient-b.result c.quotient-c.result c.quotient-d.result (search rules) (search rules) (search rules) (search rules) c.hull.ensures)
