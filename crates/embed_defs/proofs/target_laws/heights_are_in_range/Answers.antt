use Rattle.embed_defs.proofs.LevelLaws.{heights_in_range-holds}
use Rattle.embed_defs.proofs.target_laws.heights_are_in_range.Goals as goal

pub returns : goal.returns
returns c = heights_in_range-holds
