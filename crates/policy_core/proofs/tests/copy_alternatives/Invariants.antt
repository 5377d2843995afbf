use Rattle.std.proofs.Common.{◌≡◌, take}
use Rattle.policy_core.proofs.tests.copy_alternatives.Given as goal

abbrev pub invariant-loop-tests : goal.invariant-loop-tests
invariant-loop-tests l = l.copies ≡ take l.tests-index l.alternatives
