use Rattle.packet_core.proofs.WithinBounds.{agrees, agrees-few}
use Rattle.packet_core.proofs.prepared.prefix.Goals as goal

pub returns-clause-agree : goal.returns-clause-agree
returns-clause-agree c = λ other. agrees c.from.result c.args.address c.saturating_sub-others.result c.args.bits other c.from.ensures c.saturating_sub-others.ensures c.ranges.address.fits

pub returns-clause-few : goal.returns-clause-few
returns-clause-few c = agrees-few c.from.result c.args.address c.saturating_sub-others.result c.args.bits c.from.ensures c.saturating_sub-others.ensures c.ranges.address.fits
