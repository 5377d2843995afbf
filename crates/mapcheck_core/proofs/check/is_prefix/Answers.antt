use Rattle.std.proofs.Common.{◌∙◌}
use Rattle.mapcheck_core.proofs.PlaceLaws.{prefix_is}
use Rattle.mapcheck_core.proofs.check.is_prefix.Goals as goal

pub returns : goal.returns
returns c = c.starts_with.ensures.value ∙ prefix_is c.args.address.now c.args.other.now
