use Rattle.policy_text.proofs.Prelude.{◌≡◌, ◌++◌, map, drop, canonical_text, sense_at}
use Rattle.policy_text.proofs.printing.put_lines.Given as goal

abbrev pub invariant-loop-statement : goal.invariant-loop-statement
invariant-loop-statement l = record { same : l.fn.into.items ++ canonical_text (map sense_at l.entries) ≡ l.into.items ++ canonical_text (map sense_at (drop l.statement-index l.entries)) }
