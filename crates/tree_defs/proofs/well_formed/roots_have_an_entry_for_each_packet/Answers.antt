use Rattle.tree_defs.proofs.Laws.{roots_have_an_entry_for_each_packet-holds}
use Rattle.tree_defs.proofs.well_formed.roots_have_an_entry_for_each_packet.Goals as goal

pub returns : goal.returns
returns c = roots_have_an_entry_for_each_packet-holds
