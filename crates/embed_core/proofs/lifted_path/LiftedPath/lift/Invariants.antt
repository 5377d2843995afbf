use Rattle.std.proofs.Common.{◌≡◌, ℕ, ◌<◌, length, get_or}
use Rattle.embed_core.proofs.lifted_path.LiftedPath.lift.Given as goal

abbrev pub invariant-loop-place : goal.invariant-loop-place
invariant-loop-place l =
    (length l.lifted ≡ length l.self.steps.items) × ((k : ℕ) → k < l.place → get_or l.lifted k 0 ≡ get_or l.ranks (get_or l.self.steps.items k 0) 0)
