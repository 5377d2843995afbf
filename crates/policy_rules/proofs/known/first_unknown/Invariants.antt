use Rattle.policy_rules.proofs.Prelude.{not, is_known, entries_of, AreVariables, Passed}
use Rattle.policy_rules.proofs.known.first_unknown.Given as goal

abbrev pub invariant-loop-line : goal.invariant-loop-line
invariant-loop-line l = Passed (λ done. AreVariables done l.variables) (λ done s. not (is_known (entries_of l.lines) done s)) (entries_of l.lines) l.line-index
