use Rattle.policy_rules.proofs.Prelude.{AllWithin, IsNotListedOnce, entries_of}
use Rattle.policy_rules.proofs.leaves.first_stray.Given as goal

abbrev pub invariant-loop-line : goal.invariant-loop-line
invariant-loop-line l = AllWithin (λ e. ¬ IsNotListedOnce (entries_of l.lines) e) (entries_of l.lines) 0 l.line-index
