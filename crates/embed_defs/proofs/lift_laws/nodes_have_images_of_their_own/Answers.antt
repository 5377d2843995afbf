use Rattle.embed_defs.proofs.PathsReadBack.{nodes_have_images_of_their_own as holds}
use Rattle.embed_defs.proofs.lift_laws.nodes_have_images_of_their_own.Goals as goal

pub returns : goal.returns
returns c = record { law = holds }
