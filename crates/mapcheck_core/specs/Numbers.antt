-- The nodes of a topology by number, in preorder.
use Rattle.std.specs.Prelude.{◌≡◌, refl, ℕ, zero, suc, ◌+◌, ◌-◌, nat_lt, Bool, true, false, if◌then◌else◌, [], ◌∷◌, map, Option, Some, None, is_some}
use Rattle.tree_defs.specs.Tree.{leaf, inner, Trees, none, more, Address, subtree, nodes, nodes_below}
use Rattle.tree_defs.specs.Topology.{Topology, office}

-- the number of nodes of the subtree whose root has a number
abbrev mutual
  pub span_at : Topology → ℕ → ℕ
  span_at (leaf u) n = 1
  span_at (inner u ts) zero = nodes_below ts + 1
  span_at (inner u ts) (suc n) = span_below ts n

  pub span_below : Trees (Unit {0}) → ℕ → ℕ
  span_below none n = 0
  span_below (more t ts) n = if nat_lt n (nodes t) then span_at t n else span_below ts (n - nodes t)

-- an address leads to a node
abbrev pub is_address : Topology → Address → Bool
is_address t a = is_some (subtree t a)

abbrev pub is_leaf : Option Topology → Bool
is_leaf None = false
is_leaf (Some (leaf u)) = true
is_leaf (Some (inner u ts)) = false

-- an address leads to a leaf
abbrev pub is_leaf_at : Topology → Address → Bool
is_leaf_at t a = is_leaf (subtree t a)

spans_of_office : map (span_at office) (0 ∷ 1 ∷ 2 ∷ 3 ∷ 4 ∷ []) ≡ 5 ∷ 1 ∷ 3 ∷ 1 ∷ 1 ∷ []
spans_of_office = refl

leaves_of_office : map (is_leaf_at office) ([] ∷ (0 ∷ []) ∷ (1 ∷ 1 ∷ []) ∷ (0 ∷ 0 ∷ []) ∷ []) ≡ false ∷ true ∷ true ∷ false ∷ []
leaves_of_office = refl
