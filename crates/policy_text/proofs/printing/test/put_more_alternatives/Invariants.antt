use Rattle.policy_text.proofs.Prelude.{◌≡◌, ◌++◌, drop, codes}
use Rattle.policy_text_defs.specs.Tests.{flag_word}
use Rattle.policy_text_defs.specs.Canonical as text
use Rattle.policy_text.proofs.printing.test.put_more_alternatives.Given as goal

abbrev pub invariant-loop-tests : goal.invariant-loop-tests
invariant-loop-tests l = record { same : l.fn.into.items ++ text.each_after (codes " or ") text.tests_text l.alternatives ≡ l.into.items ++ text.each_after (codes " or ") text.tests_text (drop l.tests-index l.alternatives) }
