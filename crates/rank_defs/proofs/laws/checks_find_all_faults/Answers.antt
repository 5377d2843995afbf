use Rattle.rank_defs.proofs.Faults.{checked-faultless, faultless-checked}
use Rattle.rank_defs.proofs.laws.checks_find_all_faults.Goals as goal

pub returns-clause-faults : goal.returns-clause-faults
returns-clause-faults c = λ ps. (checked-faultless ps, faultless-checked ps)
