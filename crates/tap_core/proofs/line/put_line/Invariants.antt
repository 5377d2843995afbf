use Rattle.tap_core.proofs.Prelude.{◌≡◌, take, join_with_byte, words_of}
use Rattle.tap_core.proofs.line.put_line.Given as goal

-- the line so far is the words and the numbers already written
abbrev pub invariant-loop-number : goal.invariant-loop-number
invariant-loop-number l = l.line.items ≡ join_with_byte 32 (words_of l.name (take l.number-index l.numbers))
