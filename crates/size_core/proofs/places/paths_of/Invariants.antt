use Rattle.size_core.proofs.Prelude.{◌≡◌, ℕ, length, IfSome, slice_get, image_map, leaf_of, Grows, IsPathTo, addresses, add_paths}
use Rattle.size_core.proofs.places.paths_of.Given as goal

abbrev pub invariant-loop-class : goal.invariant-loop-class
invariant-loop-class l = record {
  many : length l.paths.items ≡ l.class-index;
  each : (n : ℕ) → IfSome (slice_get l.paths.items n) (λ hops. IsPathTo l.known.keys l.map (leaf_of l.policy.policy n) hops.items);
  added : addresses l.known.keys ≡ add_paths (λ n. image_map l.map (leaf_of l.policy.policy n)) l.class-index (addresses l.initial.known.keys);
  grows : Grows l.initial.known.keys l.known.keys;
}
