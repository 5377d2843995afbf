use Rattle.policy_core.proofs.HomePasses.{IsPassing}
use Rattle.policy_core.proofs.homes.leaves.Given as goal

abbrev pub invariant-loop-statement : goal.invariant-loop-statement
invariant-loop-statement l = IsPassing l.lines l.classes l.places.items l.statement-index l.node l.leaves.items
