use Rattle.size_core.proofs.Prelude.{◌≡◌, ℕ, length, IfSome, slice_get, Grows, IsHop, addresses, add_prefixes}
use Rattle.size_core.proofs.places.hops_of.Given as goal

abbrev pub invariant-loop-depth : goal.invariant-loop-depth
invariant-loop-depth l = record {
  long : length l.hops.items ≡ l.depth;
  each : (k : ℕ) → IfSome (slice_get l.hops.items k) (λ h. IsHop l.known.keys l.image l.steps k h);
  added : addresses l.known.keys ≡ add_prefixes (addresses l.initial.known.keys) l.image l.depth;
  grows : Grows l.initial.known.keys l.known.keys;
}
