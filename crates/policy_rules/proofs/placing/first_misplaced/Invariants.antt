use Rattle.policy_rules.proofs.Prelude.{◌≡◌, not, option_map, sense_of, is_placed, entries_of, last_sense, Passed}
use Rattle.policy_rules.proofs.placing.first_misplaced.Given as goal

abbrev pub invariant-loop-line : goal.invariant-loop-line
invariant-loop-line l = Passed (λ done. last_sense done ≡ option_map (λ s. sense_of s.now) l.last) (λ done s. not (is_placed done s)) (entries_of l.lines) l.line-index
