use Rattle.rank_defs.proofs.Spans.{length-within}
use Rattle.rank_core.proofs.step.written.Goals as goal

pub narrow-requires-clause-keeps : goal.narrow-requires-clause-keeps
narrow-requires-clause-keeps c = length-within c.args.transaction.now.keeps c.args.keeps.now c.requires.range.keeps

pub narrow-requires-clause-eaches : goal.narrow-requires-clause-eaches
narrow-requires-clause-eaches c = length-within c.args.transaction.now.eaches c.args.eaches.now c.requires.range.eaches
