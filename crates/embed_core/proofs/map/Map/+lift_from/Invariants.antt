use Rattle.std.proofs.Common.{◌-◌, length}
use Rattle.embed_core.proofs.map.Map.+lift_from.Given as goal

abbrev pub decreases-lift_from : goal.decreases-lift_from
decreases-lift_from g l = length (g.W.Way.digits l.way.now) - l.step
