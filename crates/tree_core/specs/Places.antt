-- The free slots at the nodes of a tree.
use Rattle.std.proofs.Common.{lit<}
use Rattle.std.specs.Prelude.{◌≡◌, refl, ℕ, zero, suc, ◌-◌, ◌<◌, ◌≤◌, List, [], ◌∷◌}
use Rattle.tree_defs.specs.Tree.{Tree, leaf, inner, Trees, none, more}

-- there is a free slot at each node on the path
abbrev mutual
  pub HasRoom : Tree ℕ → List ℕ → Type 0
  HasRoom (leaf n) digits = 0 < n
  HasRoom (inner n ts) [] = 0 < n
  HasRoom (inner n ts) (i ∷ digits) = (0 < n) × HasRoomBelow ts i digits

  pub HasRoomBelow : Trees ℕ → ℕ → List ℕ → Type 0
  HasRoomBelow none i digits = ⊥
  HasRoomBelow (more t ts) zero digits = HasRoom t digits
  HasRoomBelow (more t ts) (suc i) digits = HasRoomBelow ts i digits

-- one slot fewer at each node on the path
abbrev mutual
  pub without_places : Tree ℕ → List ℕ → Tree ℕ
  without_places (leaf n) digits = leaf (n - 1)
  without_places (inner n ts) [] = inner n ts
  without_places (inner n ts) (i ∷ digits) = inner (n - 1) (without_places_below ts i digits)

  pub without_places_below : Trees ℕ → ℕ → List ℕ → Trees ℕ
  without_places_below none i digits = none
  without_places_below (more t ts) zero digits = more (without_places t digits) ts
  without_places_below (more t ts) (suc i) digits = more t (without_places_below ts i digits)

-- no node of the second tree has fewer free slots
abbrev mutual
  pub HasNoFewer : Tree ℕ → Tree ℕ → Type 0
  HasNoFewer (leaf m) (leaf n) = m ≤ n
  HasNoFewer (leaf m) (inner n us) = ⊥
  HasNoFewer (inner m ts) (leaf n) = ⊥
  HasNoFewer (inner m ts) (inner n us) = (m ≤ n) × HaveNoFewer ts us

  pub HaveNoFewer : Trees ℕ → Trees ℕ → Type 0
  HaveNoFewer none none = Unit {0}
  HaveNoFewer none (more u us) = ⊥
  HaveNoFewer (more t ts) none = ⊥
  HaveNoFewer (more t ts) (more u us) = HasNoFewer t u × HaveNoFewer ts us

pub HasRoom-on_the_way_alone : HasRoom (inner 1 (more (leaf 0) (more (leaf 2) none))) (1 ∷ [])
HasRoom-on_the_way_alone = (lit< tt, lit< tt)

pub without_places-on_the_way_alone : without_places (inner 1 (more (leaf 0) (more (leaf 2) none))) (1 ∷ []) ≡ inner 0 (more (leaf 0) (more (leaf 1) none))
without_places-on_the_way_alone = refl
