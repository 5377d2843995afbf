use Rattle.std.proofs.Common.{◌-◌, length}
use Rattle.embed_core.proofs.map.Map.+depths_from.Given as goal

abbrev pub decreases-depths_from : goal.decreases-depths_from
decreases-depths_from l = length l.address.now - l.step
