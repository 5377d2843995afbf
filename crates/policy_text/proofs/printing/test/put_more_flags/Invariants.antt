use Rattle.policy_text.proofs.Prelude.{◌≡◌, ◌++◌, drop, codes}
use Rattle.policy_text_defs.specs.Tests.{flag_word}
use Rattle.policy_text_defs.specs.Canonical as text
use Rattle.policy_text.proofs.printing.test.put_more_flags.Given as goal

abbrev pub invariant-loop-flag : goal.invariant-loop-flag
invariant-loop-flag l = record { same : l.fn.into.items ++ text.each_after (codes "+") flag_word (text.set_among l.fn.flags l.among) ≡ l.into.items ++ text.each_after (codes "+") flag_word (text.set_among l.fn.flags (drop l.flag-index l.among)) }
