use Rattle.size_core.proofs.Prelude.{◌≡◌, ℕ, length, ◌≤◌, IfSome, Some, [], ◌∷◌, slice_get, image_map, address_at, nodes, address_in, Grows, addresses, add_paths}
use Rattle.size_core.proofs.places.images_of.Given as goal

abbrev pub invariant-loop-number : goal.invariant-loop-number
invariant-loop-number l = record {
  many : length l.indices.items ≡ l.number;
  few : l.number ≤ nodes l.policy.policy.tree;
  each : (n : ℕ) → IfSome (slice_get l.indices.items n) (λ i. address_in l.known.keys i ≡ Some (image_map l.map (address_at l.policy.policy.tree n)));
  root : address_in l.known.keys 0 ≡ Some [];
  added : addresses l.known.keys ≡ add_paths (λ n. image_map l.map (address_at l.policy.policy.tree n)) l.number ([] ∷ []);
  grows : Grows l.fn.known.keys l.known.keys;
}
