use Rattle.tree_graph.proofs.Prelude.{ℕ, ◌<◌, Graph, IsForest, IsDeep, AreParents}
use Rattle.tree_graph.proofs.depths.first_deep.Given as goal

abbrev pub invariant-loop-node : goal.invariant-loop-node
invariant-loop-node l = (g : Graph) → IsForest g l.root → AreParents g l.parents → (a : ℕ) → a < l.node → ¬ IsDeep g l.root a
