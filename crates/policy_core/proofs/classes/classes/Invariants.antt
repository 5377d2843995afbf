use Rattle.policy_core.proofs.ClassLemmas.{AreMade}
use Rattle.policy_core.proofs.classes.classes.Given as goal

abbrev pub invariant-loop-statement : goal.invariant-loop-statement
invariant-loop-statement l = AreMade l.lines l.statement-index l.leaves l.classes
