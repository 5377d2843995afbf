use Rattle.embed_defs.proofs.LevelLaws.{heights_give-holds}
use Rattle.embed_defs.proofs.target_laws.heights_give_the_lowest_levels.Goals as goal

pub returns : goal.returns
returns c = heights_give-holds
