use Rattle.study.proofs.Prelude.{◌≡◌, ℕ, length, get_or, ◌<◌, leaf_index, leaf_labels}
use Rattle.study.proofs.labels.leaves_of.Given as goal

abbrev pub invariant-loop-node : goal.invariant-loop-node
invariant-loop-node l =
    (l.labels.items ≡ leaf_labels l.policy.policy.tree l.node) × (length l.before.items ≡ l.node)
    × ((n : ℕ) → n < l.node → get_or l.before.items n 0 ≡ leaf_index l.policy.policy.tree n)
