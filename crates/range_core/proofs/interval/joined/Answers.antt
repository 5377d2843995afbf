use Rattle.range_core.proofs.Prelude.{rules, ◌≡◌, arith, ints, clamps, int_max, int_min, at_numbers}
use Rattle.range_core.proofs.interval.joined.Goals as goal

pub returns : goal.returns
returns c =
    let low : c.min.result ≡ int_min c.args.r.low c.args.s.low = omega (arith, ints, clamps)
    in let high : c.max.result ≡ int_max c.args.r.high c.args.s.high = omega (arith, ints, clamps)
    in rw (← low, ← high) (at_numbers _ c.min.result c.max.result (search rules) (search rules) c.narrow.ensures)
