use Rattle.std.proofs.Common.{refl}
use Rattle.size_core.specs.Numbers.{bits_for}
use Rattle.size_core.proofs.BitLaws.{enough_bits, least_bits}
use Rattle.size_core.proofs.numbers.bits_for.Goals as goal

pub returns : goal.returns
unfolding bits_for
returns c =
    let n = c.args.maximum in
    let fits = c.ranges.maximum.fits in
    record { value = refl; enough = enough_bits n fits; least = λ k. least_bits n k fits }
