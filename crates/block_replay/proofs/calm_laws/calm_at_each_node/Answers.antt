use Rattle.block_replay.proofs.EachNode.{calm_at_each_node as holds}
use Rattle.block_replay.proofs.calm_laws.calm_at_each_node.Goals as goal

pub returns : goal.returns
returns c = record { law = holds }
