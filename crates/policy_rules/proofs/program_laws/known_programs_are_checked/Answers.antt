use Rattle.policy_rules.proofs.KnownPrograms.{shaped_known, checked_known}
use Rattle.policy_rules.proofs.program_laws.known_programs_are_checked.Goals as goal

pub returns-clause-shaped : goal.returns-clause-shaped
returns-clause-shaped c = shaped_known

pub returns-clause-checked : goal.returns-clause-checked
returns-clause-checked c = λ es computable. checked_known es computable.1
