use Rattle.std.proofs.Common.{◌≡◌, take, map}
use Rattle.policy_rules.specs.Alternatives.{test_of}
use Rattle.policy_core.proofs.tests.tests_of.Given as goal

abbrev pub invariant-loop-condition : goal.invariant-loop-condition
invariant-loop-condition l = l.tests ≡ map test_of (take l.condition-index l.conditions)
