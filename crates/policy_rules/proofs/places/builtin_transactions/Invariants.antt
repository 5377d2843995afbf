use Rattle.policy_rules.proofs.Prelude.{◌≡◌, take, map, builtins, program_of}
use Rattle.policy_rules.proofs.places.builtin_transactions.Given as goal

abbrev pub invariant-loop-name : goal.invariant-loop-name
invariant-loop-name l = map program_of l.transactions ≡ map (λ b. b.program) (take l.name-index builtins)
