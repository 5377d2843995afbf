use Rattle.std.proofs.Common.{◌∙◌}
use Rattle.block_core.proofs.NodeSpills.{spills_at_inner_node, spills_at_one_flow}
use Rattle.block_core.proofs.block.BlockPifoNodeQueue.push_pair.Goals as goal

pub returns-clause-leaf : goal.returns-clause-leaf
returns-clause-leaf c one = c.spills-spills.ensures ∙ spills_at_one_flow c.args.self.now.flows c.args.rank c.args.value c.args.self.now.entries one

pub returns-clause-inner : goal.returns-clause-inner
returns-clause-inner c names low = c.spills-spills.ensures ∙ spills_at_inner_node c.args.self.now.flows c.args.rank c.args.value c.args.self.now.entries names low
