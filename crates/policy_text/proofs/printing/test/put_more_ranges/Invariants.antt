use Rattle.policy_text.proofs.Prelude.{◌≡◌, ◌++◌, drop, codes}
use Rattle.policy_text_defs.specs.Tests.{flag_word}
use Rattle.policy_text_defs.specs.Canonical as text
use Rattle.policy_text.proofs.printing.test.put_more_ranges.Given as goal

abbrev pub invariant-loop-range : goal.invariant-loop-range
invariant-loop-range l = record { same : l.fn.into.items ++ text.each_after (codes ", ") text.range_of_text l.ranges ≡ l.into.items ++ text.each_after (codes ", ") text.range_of_text (drop l.range-index l.ranges) }
