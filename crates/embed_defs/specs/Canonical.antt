-- The canonical placement of a topology in a complete tree.
use Rattle.std.specs.Prelude.{◌≡◌, ◌⊎◌, refl, ℕ, zero, suc, ◌+◌, ◌-◌, ◌/◌, ◌%◌, Bool, true, false, ◌&&◌, ◌||◌, nat_lt, nat_eq, List, [], ◌∷◌, ◌++◌, take, slice_index, if◌then◌else◌}
use Rattle.tree_defs.specs.Tree.{Tree, leaf, inner, Trees, none, more, Address, root_of}
use Rattle.tree_defs.specs.Topology.{Topology}
use Rattle.embed_defs.specs.Levels.{Arities}
use Rattle.embed_defs.specs.Need.{leaves_below, AreNeedsOf}

-- The digits that lead to leaf n below a node of height h. The last digit counts 1. Each other
-- digit counts the leaves below one node of the level that it chooses from.
abbrev pub digits : Arities → ℕ → ℕ → Address
digits a zero n = []
digits a (suc h) n = (n / leaves_below a h) ∷ digits a h (n % leaves_below a h)

-- a child: its index and its need
abbrev pub Child : Type 0
Child = ℕ × ℕ

abbrev pub IsAmong : Child → List Child → Type 0
IsAmong x [] = ⊥
IsAmong x (z ∷ zs) = (z ≡ x) ⊎ IsAmong x zs

-- children are placed by falling need, then in source order
abbrev pub comes_before : Child → Child → Bool
comes_before x y = nat_lt y.1 x.1 || (nat_eq x.1 y.1 && nat_lt x.0 y.0)

-- the first leaf of y's block: each child that comes before y takes a block
abbrev pub start_of : Arities → List Child → Child → ℕ
start_of a [] y = 0
start_of a (x ∷ xs) y = (if comes_before x y then leaves_below a x.1 else 0) + start_of a xs y

-- the digits of y's image after those of its parent's image; the parent has height h
abbrev pub image_part : Arities → ℕ → List Child → Child → Address
image_part a h xs y = take (h - y.1) (digits a h (start_of a xs y))

-- the children from index i on
abbrev pub children : Trees ℕ → ℕ → List Child
children none i = []
children (more t ts) i = (i, root_of t) ∷ children ts (suc i)

-- the images of a subtree below a node of height h with image e, computed from the tree of needs
abbrev mutual
  pub canonical : Arities → ℕ → Address → Tree ℕ → Tree Address
  canonical a h e (leaf n) = leaf e
  canonical a h e (inner n ts) = inner e (canonicals a h e (children ts 0) ts 0)

  pub canonicals : Arities → ℕ → Address → List Child → Trees ℕ → ℕ → Trees Address
  canonicals a h e xs none i = none
  canonicals a h e xs (more t ts) i = more (canonical a (root_of t) (e ++ image_part a h xs (i, root_of t)) t) (canonicals a h e xs ts (suc i))

-- the images of all nodes under the canonical placement in the complete tree of height h
pub record IsCanonical (a : Arities) (h : ℕ) (t : Topology) (images : Tree Address) : Type 0 where
  pub all : Tree ℕ
  pub needs : AreNeedsOf a t all
  pub placed : images ≡ canonical a h [] all

-- five leaves in the ternary tree of height 2
abbrev pub five : Tree ℕ
five = inner 2 (more (leaf 0) (more (leaf 0) (more (leaf 0) (more (leaf 0) (more (leaf 0) none)))))

pub canonical-five : canonical (λ _. 3) 2 [] five ≡ inner [] (more (leaf (0 ∷ 0 ∷ [])) (more (leaf (0 ∷ 1 ∷ [])) (more (leaf (0 ∷ 2 ∷ [])) (more (leaf (1 ∷ 0 ∷ [])) (more (leaf (1 ∷ 1 ∷ [])) none)))))
canonical-five = refl

-- a leaf and a node with two leaves, both below the root: the node has the greater need, so it is
-- placed first
abbrev pub uneven : Tree ℕ
uneven = inner 2 (more (leaf 0) (more (inner 1 (more (leaf 0) (more (leaf 0) none))) none))

pub canonical-uneven : canonical (λ _. 2) 2 [] uneven ≡ inner [] (more (leaf (1 ∷ 0 ∷ [])) (more (inner (0 ∷ []) (more (leaf (0 ∷ 0 ∷ [])) (more (leaf (0 ∷ 1 ∷ [])) none))) none))
canonical-uneven = refl

-- three children below the root, and two leaves below each
pub digits-mixed : digits (λ h. slice_index (2 ∷ 3 ∷ []) h) 2 3 ≡ 1 ∷ 1 ∷ []
digits-mixed = refl

pub comes_before-greater_need : comes_before (2, 1) (0, 0) ≡ true
comes_before-greater_need = refl

pub comes_before-same_need : comes_before (0, 1) (2, 1) ≡ true
comes_before-same_need = refl

pub comes_before-later_child : comes_before (2, 1) (0, 1) ≡ false
comes_before-later_child = refl
