use Rattle.policy_text.proofs.Prelude.{◌≡◌, length, ◌++◌, map, numbered, sense_of, entry_of}
use Rattle.policy_text.proofs.lines.Lines.of.Given as goal

abbrev pub invariant-loop-statement : goal.invariant-loop-statement
invariant-loop-statement l =
    (goal.iterator-loop-statement).can_next l.statement-iterator ×
    (goal.iterator-loop-statement).is_finite l.statement-iterator ×
    (l.number ≡ length l.yielded) ×
    (map entry_of l.held ≡ numbered 1 (map sense_of l.yielded)) ×
    (l.yielded ++ l.statement-iterator.rest.items ≡ l.fn.statements) ×
    (l.statement-iterator.rest.len ≡ length l.statement-iterator.rest.items)
