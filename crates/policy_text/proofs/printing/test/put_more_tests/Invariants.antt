use Rattle.policy_text.proofs.Prelude.{◌≡◌, ◌++◌, drop, codes}
use Rattle.policy_text_defs.specs.Tests.{flag_word}
use Rattle.policy_text_defs.specs.Canonical as text
use Rattle.policy_text.proofs.printing.test.put_more_tests.Given as goal

abbrev pub invariant-loop-test : goal.invariant-loop-test
invariant-loop-test l = record { same : l.fn.into.items ++ text.each_after (codes " and ") text.test_text l.tests ≡ l.into.items ++ text.each_after (codes " and ") text.test_text (drop l.test-index l.tests) }
