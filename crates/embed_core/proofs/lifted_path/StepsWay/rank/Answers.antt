use Rattle.embed_core.proofs.Prelude.{length, arith, ◌+◌, ◌<◌, length-range_with_len, get_or-range_with_len}
use Rattle.embed_core.proofs.lifted_path.StepsWay.rank.Goals as goal

pub returns : goal.returns
returns c =
    let n : c.args.step < length c.args.self.now.address.now + 1 = omega (arith, c.requires, length-range_with_len 0 (length c.args.self.now.address.now + 1)) in
    record { rank = omega (arith, get_or-range_with_len 0 (length c.args.self.now.address.now + 1) c.args.step 0 n) }
