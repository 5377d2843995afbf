-- Timestamps in units of which a second has many.
use Rattle.pcapng_core.proofs.Prelude.{◌≡◌, ℕ, sym, ap, arith, ◌<◌, ◌≤◌, ⊎_elim, ◌*◌, ◌^◌, min, cases_lt, moment_in, units_a_second, Unit}
use Rattle.std.proofs.Math.Nat.{div-eq_of_lt, one-le-pow}
use Rattle.std.proofs.lemmas.Nat.{pow_pos}
use Rattle.rank_defs.specs.Programs.{max_rank}
use Rattle.pcapng_defs.specs.declared.interface.Unit.TheVariants.{Decimal, Binary}

-- a second has at least one unit
pub units-some : (unit : Unit) → 0 < units_a_second unit
units-some (Decimal v) = one-le-pow v 10 (omega arith)
units-some (Binary v) = pow_pos v

-- if the units of a second don't fit in 128 bits, every 64-bit time is less than a nanosecond
pub moment-none : (unit : Unit) (time : ℕ) → time < 2 ^ 64 → (units_a_second unit < 2 ^ 128 → ⊥) → 0 ≡ moment_in unit time
moment-none unit time early many = ⊎_elim
    (λ (few : units_a_second unit < 2 ^ 128). absurd (many few))
    (λ (h : 2 ^ 128 ≤ units_a_second unit).
    let less : time * 10 ^ 9 < units_a_second unit = omega (arith, h, early) in
    sym (ap (λ m. min m max_rank) (div-eq_of_lt less)))
    (cases_lt (units_a_second unit) (2 ^ 128))
