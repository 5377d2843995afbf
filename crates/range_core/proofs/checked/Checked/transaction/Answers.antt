use Rattle.range_core.proofs.Prelude.{always-tame, program_of}
use Rattle.range_core.proofs.checked.Checked.transaction.Goals as goal

pub returns-clause-tame : goal.returns-clause-tame
returns-clause-tame c = always-tame (program_of c.self.inside.transaction) c.self.invariant.1
