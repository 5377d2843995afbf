use Rattle.embed_defs.proofs.RoomOrNone.{there_or_none}
use Rattle.embed_defs.proofs.laws.placements_are_there_or_none.Goals as goal

pub returns : goal.returns
returns c = record { law = there_or_none }
