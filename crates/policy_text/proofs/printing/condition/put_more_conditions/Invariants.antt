use Rattle.policy_text.proofs.Prelude.{◌≡◌, ◌++◌, drop, more_conditions_text}
use Rattle.policy_text.proofs.printing.condition.put_more_conditions.Given as goal

abbrev pub invariant-loop-condition : goal.invariant-loop-condition
invariant-loop-condition l = record { same : l.fn.into.items ++ more_conditions_text l.conditions ≡ l.into.items ++ more_conditions_text (drop l.condition-index l.conditions) }
