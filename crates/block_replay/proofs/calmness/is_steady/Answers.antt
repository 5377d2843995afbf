use Rattle.block_replay.proofs.CalmNodes.{none_steady}
use Rattle.block_replay.proofs.calmness.is_steady.Goals as goal

pub returns-in_default : goal.returns-in_default
returns-in_default c = none_steady c.args.transaction.now c.in_default.not-fifo c.in_default.not-strict c.in_default.not-lstf c.in_default.not-rr c.in_default.not-stfq
