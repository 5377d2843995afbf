use Rattle.policy_rules.proofs.Prelude.{take, entries_of, IsTally, listed, children}
use Rattle.policy_rules.proofs.tallies.tally_children.Given as goal

abbrev pub invariant-loop-statement : goal.invariant-loop-statement
invariant-loop-statement l = IsTally l.tally.seen l.tally.again (listed children (entries_of (take l.statement-index l.lines)))
