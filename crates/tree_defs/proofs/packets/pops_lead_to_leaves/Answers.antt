use Rattle.tree_defs.proofs.Laws.{pops_lead_to_leaves-holds}
use Rattle.tree_defs.proofs.packets.pops_lead_to_leaves.Goals as goal

pub returns : goal.returns
returns c = pops_lead_to_leaves-holds
