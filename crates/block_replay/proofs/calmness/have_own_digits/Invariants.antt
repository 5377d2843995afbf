use Rattle.policy_core.specs.Numbering.{address_at}
use Rattle.block_replay.proofs.OwnDigits.{HaveOwnBelow}
use Rattle.block_replay.proofs.calmness.have_own_digits.Given as goal

abbrev pub invariant-loop-index : goal.invariant-loop-index
invariant-loop-index l = HaveOwnBelow l.map (address_at l.policy.policy.tree l.node) l.index
