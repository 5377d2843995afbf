use Rattle.summary_core.proofs.Prelude.{ℕ, length, ◌≡◌, stamp_in}
use Rattle.summary_core.proofs.timestamps.Timestamps.fill.Given as goal

abbrev pub invariant-loop : goal.invariant-loop
invariant-loop l = record {
  kept : (n : ℕ) → stamp_in l.self n ≡ stamp_in l.fn.self n;
  first : l.self.first ≡ l.fn.self.first;
  count : length l.self.slots.items ≡ l.counter;
}
