use Rattle.policy_rules.proofs.Prelude.{List, ℕ, ◌++◌, take, IsTally}
use Rattle.policy_rules.proofs.tallies.tally_names.Given as goal

abbrev pub invariant-loop-name : goal.invariant-loop-name
invariant-loop-name l = (all : List (List ℕ)) → IsTally l.fn.tally.seen l.fn.tally.again all → IsTally l.tally.seen l.tally.again (all ++ take l.name-index l.names)
