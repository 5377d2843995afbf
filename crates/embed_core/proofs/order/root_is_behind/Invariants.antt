use Rattle.embed_core.proofs.Prelude.{◌≡◌, drop, is_behind}
use Rattle.embed_core.proofs.order.root_is_behind.Given as goal

abbrev pub invariant-loop-place : goal.invariant-loop-place
invariant-loop-place l = is_behind l.image l.digits ≡ is_behind (drop l.place l.image) (drop l.place l.digits)
