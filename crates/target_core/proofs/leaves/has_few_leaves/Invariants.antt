use Rattle.target_core.proofs.Prelude.{◌≡◌, ◌≤◌, drop, ◌*◌, leaves}
use Rattle.target_core.proofs.leaves.has_few_leaves.Given as goal

abbrev pub invariant-loop-arity : goal.invariant-loop-arity
invariant-loop-arity l = record { counted : l.count * leaves (drop l.arity-index l.arities) ≡ leaves l.arities; few : l.count ≤ 65536 }
