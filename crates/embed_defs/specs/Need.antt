-- The height that a topology needs.
use Rattle.std.proofs.Common.{lit≤, le→leb}
use Rattle.std.specs.Prelude.{◌≡◌, refl, ℕ, suc, ◌+◌, ◌≤◌, List, [], ◌∷◌, sum_by, slice_index}
use Rattle.tree_defs.specs.Tree.{Tree, leaf, inner, Trees, none, more, SameShape, root_of}
use Rattle.tree_defs.specs.Topology.{Topology}
use Rattle.embed_defs.specs.Target.{leaves}
use Rattle.embed_defs.specs.Levels.{Arities, down_from}

-- the number has the property, and no lower number has it
pub record IsLeast (P : ℕ → Type 0) (n : ℕ) : Type 0 where
  pub holds : P n
  pub least : (m : ℕ) → P m → n ≤ m

-- the leaves below a node of this height
abbrev pub leaves_below : Arities → ℕ → ℕ
leaves_below a h = leaves (down_from a h)

abbrev pub AreLower : ℕ → List ℕ → Type 0
AreLower h [] = Unit {0}
AreLower h (n ∷ ns) = (n + 1 ≤ h) × AreLower h ns

-- subtrees of heights ns fit side by side below a node of height h: each is lower, and there are
-- enough leaves for all
pub record FitsBelow (a : Arities) (ns : List ℕ) (h : ℕ) : Type 0 where
  pub below : AreLower h ns
  pub room : sum_by (leaves_below a) ns ≤ leaves_below a h

-- a height below which subtrees of heights ns always fit: the sum of each height plus one
abbrev pub enough : List ℕ → ℕ
enough [] = 0
enough (n ∷ ns) = suc (n + enough ns)

abbrev pub needs_at : Trees ℕ → List ℕ
needs_at none = []
needs_at (more t ts) = root_of t ∷ needs_at ts

-- The number at each node is its need: 0 at a leaf, and at an inner node the least height below
-- which its children fit.
abbrev mutual
  pub HoldsNeeds : Arities → Tree ℕ → Type 0
  HoldsNeeds a (leaf n) = n ≡ 0
  HoldsNeeds a (inner n ts) = IsLeast (FitsBelow a (needs_at ts)) n × HoldNeeds a ts

  pub HoldNeeds : Arities → Trees ℕ → Type 0
  HoldNeeds a none = Unit {0}
  HoldNeeds a (more t ts) = HoldsNeeds a t × HoldNeeds a ts

-- a tree of numbers holds the needs of the nodes of a topology
pub record AreNeedsOf (a : Arities) (t : Topology) (m : Tree ℕ) : Type 0 where
  pub shape : SameShape t m
  pub needs : HoldsNeeds a m

-- the need of a topology
pub record IsNeed (a : Arities) (t : Topology) (n : ℕ) : Type 0 where
  pub all : Tree ℕ
  pub needs : AreNeedsOf a t all
  pub root : root_of all ≡ n

-- There is room in the complete tree of height h. A single leaf needs h to be 0; any other tree
-- needs h to be at least its need.
abbrev pub HasHeight : ℕ → Tree ℕ → Type 0
HasHeight h (leaf n) = h ≡ 0
HasHeight h (inner n ts) = n ≤ h

pub leaves_below-node_of_height_two : leaves_below (λ _. 3) 2 ≡ 9
leaves_below-node_of_height_two = refl

-- ---- needs in binary trees
pub needs_at-roots : needs_at (more (inner 1 (more (leaf 0) (more (leaf 0) none))) (more (leaf 0) none)) ≡ 1 ∷ 0 ∷ []
needs_at-roots = refl

-- two nodes of need 1 have four leaves in all, which fit below a node of height 2
pub FitsBelow-exactly : IsLeast (FitsBelow (λ _. 2) (1 ∷ 1 ∷ [])) 2
FitsBelow-exactly = record { holds = record { below = (lit≤ tt, (lit≤ tt, tt)); room = lit≤ tt }; least = λ m f. f.below.0 }

-- a third node adds two leaves; a node of height 2 has no room for six, though each of the three is
-- lower
pub FitsBelow-one_too_many : FitsBelow (λ _. 2) (1 ∷ 1 ∷ 1 ∷ []) 3 × (FitsBelow (λ _. 2) (1 ∷ 1 ∷ 1 ∷ []) 2 → ⊥)
FitsBelow-one_too_many = (record { below = (lit≤ tt, (lit≤ tt, (lit≤ tt, tt))); room = lit≤ tt }, λ f. le→leb 6 4 f.room)

-- the leaves of a single child of need 2 fit below a node of height 2, but its parent still needs
-- more
pub FitsBelow-one_child : IsLeast (FitsBelow (λ _. 2) (2 ∷ [])) 3
FitsBelow-one_child = record { holds = record { below = (lit≤ tt, tt); room = lit≤ tt }; least = λ m f. f.below.0 }

-- three children below the root, and two below each of them
pub leaves_below-mixed : leaves_below (λ h. slice_index (2 ∷ 3 ∷ []) h) 2 ≡ 6
leaves_below-mixed = refl
