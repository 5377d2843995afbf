use Rattle.policy_core.specs.Numbering.{address_at}
use Rattle.block_replay.proofs.OwnDigits.{earlier_address}
use Rattle.block_replay.proofs.calmness.has_own_digit.Goals as goal

pub digit_at-requires-clause-child : goal.digit_at-requires-clause-child
digit_at-requires-clause-child c =
    let tree = c.args.policy.now.policy.tree in
    earlier_address tree (address_at tree c.args.node) c.args.index c.loop-before.before c.requires.child c.loop-before-test.true
