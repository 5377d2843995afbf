use Rattle.policy_rules.proofs.Prelude.{AllWithin, IsOrphan, entries_of}
use Rattle.policy_rules.proofs.parents.first_orphan.Given as goal

abbrev pub invariant-loop-line : goal.invariant-loop-line
invariant-loop-line l = AllWithin (λ e. ¬ IsOrphan (entries_of l.lines) e) (entries_of l.lines) 0 l.line-index
