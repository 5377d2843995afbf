use Rattle.event_json.proofs.Prelude.{◌≡◌, ◌++◌, ◌+◌, drop, ◌≤◌, length, ◌*◌, numbers_text}
use Rattle.event_json.proofs.NumberLists.{later_numbers}
use Rattle.event_json.proofs.line.Line.numbers.Given as goal

abbrev pub invariant-loop-value : goal.invariant-loop-value
invariant-loop-value l = record {
  text : l.self ++ later_numbers (drop l.value-index l.others) ≡ l.fn.self ++ numbers_text l.values;
  short : length l.self ≤ length l.fn.self + 20 + 21 * l.value-index;
}
