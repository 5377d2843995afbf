-- The children of a complete tree's inner nodes, where the nodes stand in an array, level by level
-- from the root. From a level on: `begin` nodes stand before it, and it has `width` nodes.
use Rattle.std.specs.Prelude.{◌≡◌, refl, ℕ, ◌+◌, ◌-◌, ◌*◌, ◌<◌, List, [], ◌∷◌, map, length, nat_lt, slice_index_or, if◌then◌else◌}

-- the number of nodes above the leaves
abbrev pub inner_nodes : List ℕ → ℕ → ℕ → ℕ
inner_nodes [] begin width = begin
inner_nodes (d ∷ arities) begin width = inner_nodes arities (begin + width) (width * d)

-- the index of an inner node's first child
abbrev pub first_child : List ℕ → ℕ → ℕ → ℕ → ℕ
first_child [] begin width node = 0
first_child (d ∷ arities) begin width node = if nat_lt node (begin + width) then (begin + width) + (node - begin) * d else first_child arities (begin + width) (width * d) node

-- the first child of each inner node
pub record AreFirstChildren (arities children : List ℕ) : Type 0 where
  pub long : length children ≡ inner_nodes arities 0 1
  pub first : (node : ℕ) → node < length children → slice_index_or children node 0 ≡ first_child arities 0 1 node

-- ---- a root with two children, and three leaves below each
pub inner_nodes-two_by_three : inner_nodes (2 ∷ 3 ∷ []) 0 1 ≡ 3
inner_nodes-two_by_three = refl

pub first_child-two_by_three : map (first_child (2 ∷ 3 ∷ []) 0 1) (0 ∷ 1 ∷ 2 ∷ []) ≡ 1 ∷ 3 ∷ 6 ∷ []
first_child-two_by_three = refl
