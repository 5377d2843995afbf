use Rattle.embed_defs.proofs.PathsReadBack.{picked_ranks_are_those_lifted as holds}
use Rattle.embed_defs.proofs.lift_laws.picked_ranks_are_those_lifted.Goals as goal

pub returns : goal.returns
returns c = record { law = holds }
