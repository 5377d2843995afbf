use Rattle.rank_core.proofs.Prelude.{◌≡◌, arith, length, ◌<◌, length-within}
use Rattle.rank_core.proofs.step.perform.Goals as goal

pub bounds-keeps-k : goal.bounds-keeps-k
bounds-keeps-k c =
    let same : length c.args.keeps.now ≡ length c.args.transaction.now.keeps = length-within c.args.transaction.now.keeps c.args.keeps.now c.requires.range.keeps
    in let there : c.in-Keep.k < length c.args.transaction.now.keeps = rw c.in-Keep.is at c.requires.fits.aim
    in omega (arith, same, there)

pub bounds-eaches-k : goal.bounds-eaches-k
bounds-eaches-k c =
    let same : length c.args.eaches.now ≡ length c.args.transaction.now.eaches = length-within c.args.transaction.now.eaches c.args.eaches.now c.requires.range.eaches
    in let there : c.in-Each.k < length c.args.transaction.now.eaches = rw c.in-Each.is at c.requires.fits.aim
    in omega (arith, same, there)
