use Rattle.rank_core.proofs.Prelude.{length-within, variables-inside, program_of, memory}
use Rattle.rank_core.proofs.step.written_wide.Goals as goal

pub number-requires-clause-inside : goal.number-requires-clause-inside
number-requires-clause-inside c =
    variables-inside (program_of c.args.transaction.now) c.args.env.now (memory c.args.rank c.args.keeps.now c.args.eaches.now) c.requires.told c.requires.range

pub number-requires-clause-keeps : goal.number-requires-clause-keeps
number-requires-clause-keeps c = length-within c.args.transaction.now.keeps c.args.keeps.now c.requires.range.keeps

pub number-requires-clause-eaches : goal.number-requires-clause-eaches
number-requires-clause-eaches c = length-within c.args.transaction.now.eaches c.args.eaches.now c.requires.range.eaches
