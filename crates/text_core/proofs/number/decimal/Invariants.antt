use Rattle.text_core.proofs.Prelude.{◌≡◌, drop, ◌≤◌, max, number_of}
use Rattle.text_core.proofs.DecimalLemmas.{number_after}
use Rattle.text_core.proofs.number.decimal.Given as goal

abbrev pub invariant-loop-byte : goal.invariant-loop-byte
invariant-loop-byte l = record { same : number_of l.token ≡ number_after l.value (drop l.byte-index l.token); low : l.value ≤ max }
