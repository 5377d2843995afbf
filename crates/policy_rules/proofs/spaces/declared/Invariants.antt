use Rattle.policy_rules.proofs.Prelude.{is_declared, entries_of, AreVariables, AreSpaces, Passed}
use Rattle.policy_rules.proofs.spaces.declared.Given as goal

abbrev pub invariant-loop-line : goal.invariant-loop-line
invariant-loop-line l = Passed (λ done. AreSpaces done l.spaces × AreVariables done l.variables) is_declared (entries_of l.lines) l.line-index
