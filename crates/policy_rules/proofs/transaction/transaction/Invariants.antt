use Rattle.policy_rules.proofs.Prelude.{◌≡◌, take, program_of, program_over, entries_of}
use Rattle.policy_rules.proofs.transaction.transaction.Given as goal

abbrev pub invariant-loop-line : goal.invariant-loop-line
invariant-loop-line l = program_of l.transaction ≡ program_over l.variables.keeps l.variables.eaches (take l.line-index (entries_of l.body))
