use Rattle.tree_defs.proofs.Laws.{leaf_addresses_lead_to_leaves-holds}
use Rattle.tree_defs.proofs.topologies.leaf_addresses_lead_to_leaves.Goals as goal

pub returns : goal.returns
returns c = leaf_addresses_lead_to_leaves-holds
