use Rattle.range_core.proofs.Prelude.{rules, FitsSigned, to_z-of_z, w128, at_four, corners_fit}
use Rattle.std.specs.Prelude.{◌*ℤ◌}
use Rattle.range_core.proofs.interval.product.Goals as goal

pub returns-in_err-a : goal.returns-in_err-a
returns-in_err-a c =
    let f : FitsSigned w128 c.args.r.low = search rules
    in let g : FitsSigned w128 c.args.s.low = search rules
    in rw c.from_residual.ensures (λ n. (simp to_z-of_z at c.in_err-a.ensures) (corners_fit (λ x y. x *ℤ y) c.args.r c.args.s n).low_low)

pub returns-in_err-b : goal.returns-in_err-b
returns-in_err-b c =
    let f : FitsSigned w128 c.args.r.low = search rules
    in let g : FitsSigned w128 c.args.s.high = search rules
    in rw c.from_residual-in_err-b.ensures (λ n. (simp to_z-of_z at c.in_err-b.ensures) (corners_fit (λ x y. x *ℤ y) c.args.r c.args.s n).low_high)

pub returns-in_err-c : goal.returns-in_err-c
returns-in_err-c c =
    let f : FitsSigned w128 c.args.r.high = search rules
    in let g : FitsSigned w128 c.args.s.low = search rules
    in rw c.from_residual-in_err-c.ensures (λ n. (simp to_z-of_z at c.in_err-c.ensures) (corners_fit (λ x y. x *ℤ y) c.args.r c.args.s n).high_low)

pub returns-in_err-d : goal.returns-in_err-d
returns-in_err-d c =
    let f : FitsSigned w128 c.args.r.high = search rules
    in let g : FitsSigned w128 c.args.s.high = search rules
    in rw c.from_residual-in_err-d.ensures (λ n. (simp to_z-of_z at c.in_err-d.ensures) (corners_fit (λ x y. x *ℤ y) c.args.r c.args.s n).high_high)

pub returns : goal.returns
returns c =
    let f : FitsSigned w128 c.args.r.low = search rules
    in let g : FitsSigned w128 c.args.r.high = search rules
    in let h : FitsSigned w128 c.args.s.low = search rules
    in let k : FitsSigned w128 c.args.s.high = search rules
    in let m = simp to_z-of_z at c.in_ok-a.ensures
    in let n = simp to_z-of_z at c.in_ok-b.ensures
    in let o = simp to_z-of_z at c.in_ok-c.ensures
    in let p = simp to_z-of_z at c.in_ok-d.ensures
    in rw (← m.1, ← n.1, ← o.1, ← p.1) (at_four _ c.in_ok-a.a c.in_ok-b.b c.in_ok-c.c c.in_ok-d.d (search rules) (search rules) (search rules) (search rules) c.hull.ensures)
