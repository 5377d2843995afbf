use Rattle.policy_rules.proofs.Prelude.{is_one_too_many, entries_of, IsRoom, Passed}
use Rattle.policy_rules.proofs.room.first_beyond.Given as goal

abbrev pub invariant-loop-line : goal.invariant-loop-line
invariant-loop-line l = Passed (λ done. IsRoom done l.room) is_one_too_many (entries_of l.lines) l.line-index
