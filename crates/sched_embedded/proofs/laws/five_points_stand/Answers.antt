use Rattle.sched_embedded.proofs.FivePoints.{five_points}
use Rattle.sched_embedded.proofs.laws.five_points_stand.Goals as goal

pub returns : goal.returns
returns g c = record { law = five_points g.F.Fabric }
