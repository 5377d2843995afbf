use Rattle.size_core.proofs.Prelude.{◌≡◌, ℕ, length, ◌≤◌, IfSome, None, slice_get}
use Rattle.size_core.proofs.names.no_names.Given as goal

abbrev pub invariant-loop : goal.invariant-loop
invariant-loop l = record {
  count : length l.names.items ≡ l.counter;
  few : l.counter ≤ l.count;
  none : (i : ℕ) → IfSome (slice_get l.names.items i) (λ name. name ≡ None);
}
