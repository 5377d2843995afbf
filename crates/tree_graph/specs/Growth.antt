-- A tree under construction: some rows exist, and a node is added with all its descendants.
use Rattle.std.specs.Prelude.{ℕ, ◌≡◌, ◌≤◌, ◌+◌, List, ◌++◌, length}
use Rattle.tree_defs.specs.Tree.{Tree, leaf, inner, Trees, none, more, Address, root_of, nodes}
use Rattle.tree_defs.specs.Topology.{Topology, topology_of}
use Rattle.tree_graph.specs.Descent.{Graph, children}
use Rattle.tree_graph.specs.Row.{Row}
use Rattle.tree_graph.specs.Preorder.{labels, IsTreeOf, rows}

-- each node has a prefix of its children
abbrev mutual
  pub IsPartOf : Graph → Tree ℕ → Type 0
  IsPartOf g (leaf i) = Unit {0}
  IsPartOf g (inner i ts) = ((rest : List ℕ) × (labels ts ++ rest ≡ children g i)) × ArePartsOf g ts

  pub ArePartsOf : Graph → Trees ℕ → Type 0
  ArePartsOf g none = Unit {0}
  ArePartsOf g (more t ts) = IsPartOf g t × ArePartsOf g ts

-- every partial tree below a node fits after n rows
abbrev pub HasRoom : Graph → ℕ → ℕ → ℕ → Type 0
HasRoom g i n limit = (t : Tree ℕ) → IsPartOf g t → root_of t ≡ i → n + nodes t ≤ limit

-- the tree below a node was appended to the old rows, at an address
pub record HasGrown (g : Graph) (i : ℕ) (a : Address) (old new : List Row) (shape : Topology) : Type 0 where
  pub tree : Tree ℕ
  pub root_is : root_of tree ≡ i
  pub is_tree : IsTreeOf g tree
  pub rows_are : new ≡ old ++ rows (length old) a tree
  pub topology_is : shape ≡ topology_of tree
