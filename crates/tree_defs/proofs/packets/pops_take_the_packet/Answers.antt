use Rattle.tree_defs.proofs.Laws.{pops_take_the_packet-holds}
use Rattle.tree_defs.proofs.packets.pops_take_the_packet.Goals as goal

pub returns : goal.returns
returns c = pops_take_the_packet-holds
