use Rattle.mapcheck_core.proofs.ClassicLines.{classic_maps}
use Rattle.mapcheck_core.proofs.law.classic_maps_have_each_name.Goals as goal

pub returns : goal.returns
returns c = classic_maps
