use Rattle.tree_defs.proofs.Laws.{prefixes_come_before-holds}
use Rattle.tree_defs.proofs.topologies.prefixes_come_before.Goals as goal

pub returns : goal.returns
returns c = prefixes_come_before-holds
