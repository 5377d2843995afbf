use Rattle.policy_rules.proofs.Prelude.{◌≡◌, ◌++◌, map, drop, program_of, entries_of, programs}
use Rattle.policy_rules.proofs.bodies.add_written.Given as goal

abbrev pub invariant-loop-place : goal.invariant-loop-place
invariant-loop-place l =
    map program_of l.transactions ++ programs (drop l.place (entries_of l.lines)) ≡ map program_of l.initial.transactions ++ programs (entries_of l.lines)
