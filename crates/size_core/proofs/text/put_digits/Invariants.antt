use Rattle.std.proofs.Common.{◌≡◌, ◌++◌, drop}
use Rattle.size_core.specs.Text.{digits_text}
use Rattle.size_core.proofs.text.put_digits.Given as goal

abbrev pub invariant-loop-digit : goal.invariant-loop-digit
invariant-loop-digit l = record { same : l.fn.into.items ++ digits_text l.address ≡ l.into.items ++ digits_text (drop l.digit-index l.address) }
