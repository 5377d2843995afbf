use Rattle.size_core.proofs.Prelude.{◌≡◌, ℕ, length, IfSome, slice_get, IsServed}
use Rattle.size_core.proofs.names.names_of.Given as goal

abbrev pub invariant-loop-number : goal.invariant-loop-number
invariant-loop-number l = record {
  count : length l.names.items ≡ l.count;
  each : (i : ℕ) → IfSome (slice_get l.names.items i) (λ name. IsServed l.policy.policy.tree l.indices l.number i name);
}
