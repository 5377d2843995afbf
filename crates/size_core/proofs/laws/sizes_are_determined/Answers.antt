use Rattle.size_core.proofs.OneSizes.{sizes-determined}
use Rattle.size_core.proofs.laws.sizes_are_determined.Goals as goal

pub returns : goal.returns
returns c = sizes-determined
