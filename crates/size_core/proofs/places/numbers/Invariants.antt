use Rattle.size_core.proofs.Prelude.{◌≡◌, ◌≤◌, range_with_len}
use Rattle.size_core.proofs.places.numbers.Given as goal

abbrev pub invariant-loop-number : goal.invariant-loop-number
invariant-loop-number l = record {
  items : l.numbers.items ≡ range_with_len 0 l.number;
  few : l.number ≤ l.count;
}
