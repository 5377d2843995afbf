use Rattle.policy_rules.proofs.Prelude.{AllWithin, NeedsVersion2, entries_of}
use Rattle.policy_rules.proofs.limits.first_ahead.Given as goal

abbrev pub invariant-loop-line : goal.invariant-loop-line
invariant-loop-line l = AllWithin (λ e. ¬ NeedsVersion2 (entries_of l.lines) e) (entries_of l.lines) 0 l.line-index
