use Rattle.policy_text.proofs.Prelude.{◌≡◌, ◌++◌, drop, names_text}
use Rattle.policy_text.proofs.printing.statement.put_names.Given as goal

abbrev pub invariant-loop-name : goal.invariant-loop-name
invariant-loop-name l = record { same : l.fn.into.items ++ names_text l.names ≡ l.into.items ++ names_text (drop l.name-index l.names) }
