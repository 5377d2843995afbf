use Rattle.policy_rules.proofs.Prelude.{◌≡◌, take, has_catch_all, entries_of}
use Rattle.policy_rules.proofs.leaves.has_catch_all.Given as goal

abbrev pub invariant-loop-statement : goal.invariant-loop-statement
invariant-loop-statement l = l.found ≡ has_catch_all (entries_of (take l.statement-index l.lines))
