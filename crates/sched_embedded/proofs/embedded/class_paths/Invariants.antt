use Rattle.sched_embedded.proofs.Prelude.{ℕ, ◌≡◌, length, Some, slice_get, IsLiftedPathTo, LiftedPath, leaf_of}
use Rattle.sched_embedded.proofs.embedded.class_paths.Given as goal

abbrev pub invariant-loop-class : goal.invariant-loop-class
invariant-loop-class l = record {
  many : length l.lifted_paths.items ≡ l.class-index;
  each : (n : ℕ) (lifted_path : LiftedPath) → slice_get l.lifted_paths.items n ≡ Some lifted_path → IsLiftedPathTo l.map (leaf_of l.policy.policy n) lifted_path;
}
