use Rattle.mapcheck_core.proofs.Prelude.{None, IsFirstBroken}
use Rattle.mapcheck_core.proofs.check.first_broken.Given as goal

abbrev pub invariant-loop-number : goal.invariant-loop-number
invariant-loop-number l = IsFirstBroken l.given l.first l.span l.number None
