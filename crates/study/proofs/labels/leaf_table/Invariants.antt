use Rattle.study.proofs.Prelude.{◌≡◌, map, take, leaf_index}
use Rattle.study.proofs.labels.leaf_table.Given as goal

abbrev pub invariant-loop-class : goal.invariant-loop-class
invariant-loop-class l = l.table.items ≡ map (λ c. leaf_index l.policy.policy.tree c.leaf) (take l.class-index l.class-items)
