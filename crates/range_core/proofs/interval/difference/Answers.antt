use Rattle.range_core.proofs.Prelude.{rules, FitsSigned, arith, to_z-of_z, ints, w128}
use Rattle.std.specs.Prelude.{◌-ℤ◌}
use Rattle.range_core.proofs.interval.difference.Goals as goal

pub returns : goal.returns
returns c =
    let f : FitsSigned w128 c.args.r.low = search rules
    in let g : FitsSigned w128 c.args.r.high = search rules
    in let h : FitsSigned w128 c.args.s.low = search rules
    in let k : FitsSigned w128 c.args.s.high = search rules
    in let low : FitsSigned w128 (c.args.r.low -ℤ c.args.s.high) = omega (arith, ints)
    in let high : FitsSigned w128 (c.args.r.high -ℤ c.args.s.low) = omega (arith, ints)
    in simp to_z-of_z at c.narrow.ensures
