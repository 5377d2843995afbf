use Rattle.std.proofs.Common.{arith}
use Rattle.pcapng_core.proofs.Moments.{units-some, moment-none}
use Rattle.pcapng_core.proofs.moment.moment_in.Goals as goal

pub nonzero_div-product : goal.nonzero_div-product
nonzero_div-product c = omega (arith, units-some c.args.unit, c.in-Some.ensures.1)

pub returns-in-None : goal.returns-in-None
returns-in-None c = moment-none c.args.unit c.args.time (omega arith) c.in-None.ensures
