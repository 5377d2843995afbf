use Rattle.std.proofs.Common.{arith}
use Rattle.packet_core.proofs.WithinBounds.{version-holds}
use Rattle.packet_core.proofs.prepared.version.Goals as goal

pub returns : goal.returns
returns c = λ fields n. rw (c.from.ensures, c.from-2.ensures) (version-holds fields.version c.args.number (omega (arith, c.ranges.number.fits)))
