use Rattle.block_replay.proofs.Prelude.{◌≡◌, address_at}
use Rattle.block_replay.specs.Calm.{digit_at}
use Rattle.block_replay.proofs.OwnDigits.{DiffersBelow}
use Rattle.block_replay.proofs.calmness.has_own_digit.Given as goal

abbrev pub invariant-loop-before : goal.invariant-loop-before
invariant-loop-before l =
    (l.digit ≡ digit_at l.map (address_at l.policy.policy.tree l.node) l.index) × DiffersBelow l.map (address_at l.policy.policy.tree l.node) l.index l.before
