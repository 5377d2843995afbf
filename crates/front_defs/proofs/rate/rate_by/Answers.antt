use Rattle.std.proofs.Common.{rules, arith, lit<, ◌+◌, ◌*◌, ◌^◌, ◌<◌, ◌≤◌, ℕ}
use Rattle.std.proofs.Math.Nat.{one-le-mul, one-le-pow, pow-le-pow_right}
use Rattle.std.proofs.lemmas.Nat.{mul-le}
use Rattle.front_defs.proofs.rate.rate_by.Goals as goal

power_bound : (places : ℕ) → places ≤ 12 → 10 ^ places ≤ 10 ^ 12
power_bound places few = pow-le-pow_right (lit< tt) few

pub overflow_mul-number-2 : goal.overflow_mul-number-2
overflow_mul-number-2 c =
    let power : c.pow-power.result ≤ 10 ^ 12 = search (rules, power_bound) in
    let first : c.args.whole * c.pow-power.result ≤ 8000000000000 * 10 ^ 12 = mul-le _ _ _ _ c.requires.whole power in
    let part : c.args.part < 2 ^ 64 = search rules in
    let sum : c.args.whole * c.pow-power.result + c.args.part ≤ 8000000000000 * 10 ^ 12 + 2 ^ 64 = omega (arith, first, part) in
    let whole : (c.args.whole * c.pow-power.result + c.args.part) * c.args.unit.scale ≤ (8000000000000 * 10 ^ 12 + 2 ^ 64) * 10 ^ 12 =
    mul-le _ _ _ _ sum c.requires.scale.1 in
    omega (arith, whole)

pub whole_bytes-requires : goal.whole_bytes-requires
whole_bytes-requires c =
    let power : 1 ≤ c.pow-power.result = search (rules, one-le-pow) in
    one-le-mul power c.requires.parts.0
