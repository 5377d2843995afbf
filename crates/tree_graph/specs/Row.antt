-- A node of a tree, as a row in the list of all nodes.
use Rattle.std.specs.Prelude.{ℕ, List, [], map, slice_index_or}

-- the node's number in the graph, its address, and the preorder numbers of its children
pub record Row : Type 0 where
  pub node : ℕ
  pub address : List ℕ
  pub children : List ℕ

abbrev pub row : ℕ → List ℕ → List ℕ → Row
row i a cs = record { node = i; address = a; children = cs }

-- the row at an index
abbrev pub row_at : List Row → ℕ → Row
row_at rows n = slice_index_or rows n (row 0 [] [])

-- the graph numbers of a list of rows, in order
abbrev pub nodes_of : List Row → List ℕ
nodes_of rows = map (λ r. r.node) rows
