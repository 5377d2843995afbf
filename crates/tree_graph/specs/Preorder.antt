-- The tree of a graph below a node, and its nodes in preorder.
use Rattle.std.specs.Prelude.{ℕ, ◌≡◌, ◌<◌, ◌≤◌, ◌+◌, ◌^◌, refl, List, [], ◌∷◌, ◌++◌}
use Rattle.tree_defs.specs.Tree.{Tree, leaf, inner, Trees, none, more, Address, HasChild, root_of, nodes, depth, most_levels}
use Rattle.tree_defs.specs.Topology.{Topology, topology_of, IsBranched}
use Rattle.tree_graph.specs.Descent.{Graph, children, two_below_a_root}
use Rattle.tree_graph.specs.Row.{Row, row}

-- the numbers at the roots of a list of trees
abbrev pub labels : Trees ℕ → List ℕ
labels none = []
labels (more t ts) = root_of t ∷ labels ts

-- a leaf is a node without children; an inner node has its children in order
abbrev mutual
  pub IsTreeOf : Graph → Tree ℕ → Type 0
  IsTreeOf g (leaf i) = children g i ≡ []
  IsTreeOf g (inner i ts) = HasChild ts 0 × (labels ts ≡ children g i) × AreTreesOf g ts

  pub AreTreesOf : Graph → Trees ℕ → Type 0
  AreTreesOf g none = Unit {0}
  AreTreesOf g (more t ts) = IsTreeOf g t × AreTreesOf g ts

-- the numbers of a tree, each node's before those of its descendants
abbrev mutual
  pub preorder : Tree ℕ → List ℕ
  preorder (leaf i) = i ∷ []
  preorder (inner i ts) = i ∷ preorder_below ts

  pub preorder_below : Trees ℕ → List ℕ
  preorder_below none = []
  preorder_below (more t ts) = preorder t ++ preorder_below ts

-- the preorder numbers of siblings, if the first has number n
abbrev pub starts : ℕ → Trees ℕ → List ℕ
starts n none = []
starts n (more t ts) = n ∷ starts (n + nodes t) ts

-- the nodes in preorder, if the root has number n and address a
abbrev mutual
  pub rows : ℕ → Address → Tree ℕ → List Row
  rows n a (leaf i) = row i a [] ∷ []
  rows n a (inner i ts) = row i a (starts (n + 1) ts) ∷ rows_below (n + 1) a 0 ts

  -- the children from digit d on of a node with address a
  pub rows_below : ℕ → Address → ℕ → Trees ℕ → List Row
  rows_below n a d none = []
  rows_below n a d (more t ts) = rows n (a ++ d ∷ []) t ++ rows_below (n + nodes t) a (d + 1) ts

-- the nodes of a tree in preorder, with its shape
pub record Numbered : Type 0 where
  pub rows : List Row
  pub topology : Topology

abbrev pub numbered : List Row → Topology → Numbered
numbered all shape = record { rows = all; topology = shape }

-- the rows and shape of this tree, whose root has number 0 and the empty address
pub record IsNumberedBy (t : Tree ℕ) (all : List Row) (shape : Topology) : Type 0 where
  pub rows_are : all ≡ rows 0 [] t
  pub topology_is : shape ≡ topology_of t

-- the rows and shape of the tree below the root of a graph
pub record IsTreeBelow (g : Graph) (root : ℕ) (all : Numbered) : Type 0 where
  pub tree : Tree ℕ
  pub root_is : root_of tree ≡ root
  pub is_tree : IsTreeOf g tree
  pub numbered : IsNumberedBy tree all.rows all.topology

-- the rows and shape of some tree that isn't too deep, with fewer than 2^32 nodes and at least one
-- child at each inner node
pub record IsSound (all : List Row) (shape : Topology) : Type 0 where
  pub tree : Tree ℕ
  pub numbered : IsNumberedBy tree all shape
  pub levels : depth tree ≤ most_levels
  pub few : nodes tree < 2 ^ 32
  pub branched : IsBranched shape

-- the tree of a graph of four nodes
abbrev pub three_levels : Tree ℕ
three_levels = inner 2 (more (inner 0 (more (leaf 3) none)) (more (leaf 1) none))

pub IsTreeOf-three_levels : IsTreeOf two_below_a_root three_levels
IsTreeOf-three_levels = (tt, refl, ((tt, refl, (refl, tt)), (refl, tt)))

pub rows-three_levels : rows 0 [] three_levels ≡ row 2 [] (1 ∷ 3 ∷ []) ∷ row 0 (0 ∷ []) (2 ∷ []) ∷ row 3 (0 ∷ 0 ∷ []) [] ∷ row 1 (1 ∷ []) [] ∷ []
rows-three_levels = refl

pub preorder-three_levels : preorder three_levels ≡ 2 ∷ 0 ∷ 3 ∷ 1 ∷ []
preorder-three_levels = refl
