-- Laws of a forest, and of the tree below its root.
use Rattle.std.specs.Prelude.{ℕ, ◌≡◌, ◌<◌, length}
use Rattle.tree_defs.specs.Tree.{Tree, root_of, nodes}
use Rattle.tree_graph.specs.Descent.{Graph, Leads, IsForest, times}
use Rattle.tree_graph.specs.Preorder.{IsTreeOf, preorder}

abbrev pub NodesAreReached : Type 0
NodesAreReached = (g : Graph) (root a : ℕ) → IsForest g root → a < length g → (k : ℕ) × Leads g k root a

abbrev pub NodesHaveOneDepth : Type 0
NodesHaveOneDepth = (g : Graph) (root j k a : ℕ) → IsForest g root → Leads g j root a → Leads g k root a → j ≡ k

abbrev pub TreesHaveEachNodeOnce : Type 0
TreesHaveEachNodeOnce = (g : Graph) (root : ℕ) (t : Tree ℕ) → IsForest g root → IsTreeOf g t → root_of t ≡ root → (a : ℕ) → a < length g → times a (preorder t) ≡ 1

abbrev pub TreesHaveAllNodes : Type 0
TreesHaveAllNodes = (g : Graph) (root : ℕ) (t : Tree ℕ) → IsForest g root → IsTreeOf g t → root_of t ≡ root → nodes t ≡ length g

abbrev pub GraphsHaveOneTree : Type 0
GraphsHaveOneTree = (g : Graph) (t u : Tree ℕ) → IsTreeOf g t → IsTreeOf g u → root_of t ≡ root_of u → t ≡ u
