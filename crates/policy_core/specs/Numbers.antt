-- The preorder numbers of nodes, and the leaves that list a class.
use Rattle.std.specs.Prelude.{◌≡◌, ◌<◌, ℕ, List, length, slice_index}
use Rattle.tree_graph.specs.Row.{Row, row_at}

-- for each node of the graph, the number of its row
pub record ArePlaces (rows : List Row) (places : List ℕ) : Type 0 where
  pub len : length places ≡ length rows
  pub within : (i : ℕ) → i < length rows → slice_index places i < length rows
  pub node : (i : ℕ) → i < length rows → (row_at rows (slice_index places i)).node ≡ i
