use Rattle.policy_rules.proofs.Prelude.{take, entries_of, IsTally, listed, leaf_classes}
use Rattle.policy_rules.proofs.tallies.tally_classes.Given as goal

abbrev pub invariant-loop-statement : goal.invariant-loop-statement
invariant-loop-statement l = IsTally l.tally.seen l.tally.again (listed leaf_classes (entries_of (take l.statement-index l.lines)))
