use Rattle.block_replay.proofs.CalmNodes.{AreCalmBelow}
use Rattle.block_replay.proofs.calmness.calm.Given as goal

abbrev pub invariant-loop-node : goal.invariant-loop-node
invariant-loop-node l = AreCalmBelow l.policy.policy l.map l.node
