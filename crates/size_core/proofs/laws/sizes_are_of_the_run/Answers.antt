use Rattle.size_core.proofs.SizesOfRuns.{sizes_are_of_the_run}
use Rattle.size_core.proofs.laws.sizes_are_of_the_run.Goals as goal

pub returns : goal.returns
returns c = sizes_are_of_the_run
