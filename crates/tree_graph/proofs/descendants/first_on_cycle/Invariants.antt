use Rattle.tree_graph.proofs.Prelude.{ℕ, ◌<◌, lists, IsBelow}
use Rattle.tree_graph.proofs.descendants.first_on_cycle.Given as goal

abbrev pub invariant-loop-node : goal.invariant-loop-node
invariant-loop-node l = (a : ℕ) → a < l.node → ¬ IsBelow (lists l.graph) a a
