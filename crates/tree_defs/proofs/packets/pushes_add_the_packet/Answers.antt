use Rattle.tree_defs.proofs.Laws.{pushes_add_the_packet-holds}
use Rattle.tree_defs.proofs.packets.pushes_add_the_packet.Goals as goal

pub returns : goal.returns
returns c = pushes_add_the_packet-holds
