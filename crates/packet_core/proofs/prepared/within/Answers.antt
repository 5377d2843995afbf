use Rattle.packet_core.proofs.Prelude.{arith, field_of}
use Rattle.packet_core.proofs.WithinBounds.{field-holds}
use Rattle.packet_core.proofs.prepared.within.Goals as goal

pub returns : goal.returns
returns c = λ fields n. rw (c.place_of.ensures.value, c.from.ensures, c.from-2.ensures) (field-holds (field_of c.args.field) fields n c.args.low c.args.high (omega (arith, c.ranges.high.fits)))
