-- Placements: at each node, the digits of its image after those of its parent's image.
use Rattle.std.specs.Prelude.{◌≡◌, refl, ◌≢◌, ℕ, zero, suc, None, [], ◌∷◌, ◌++◌}
use Rattle.tree_defs.specs.Tree.{Tree, leaf, inner, Trees, none, more, Address, root_of}
use Rattle.tree_defs.specs.Topology.{after}

abbrev pub Placement : Type 0
Placement = Tree Address

abbrev pub Placements : Type 0
Placements = Trees Address

-- the digits of child i
abbrev pub part : Placements → ℕ → Address
part none i = []
part (more p ps) zero = root_of p
part (more p ps) (suc i) = part ps i

-- neither the digits nor those of any child are a prefix of the other
abbrev pub IsApartFrom : Address → Placements → Type 0
IsApartFrom e none = Unit {0}
IsApartFrom e (more p ps) = (after e (root_of p) ≡ None) × (after (root_of p) e ≡ None) × IsApartFrom e ps

-- no child has its parent's image, and no sibling's image is a prefix of another's
abbrev mutual
  pub IsPlaced : Placement → Type 0
  IsPlaced (leaf e) = Unit {0}
  IsPlaced (inner e ps) = ArePlaced ps

  pub ArePlaced : Placements → Type 0
  ArePlaced none = Unit {0}
  ArePlaced (more p ps) = (root_of p ≢ []) × IsApartFrom (root_of p) ps × IsPlaced p × ArePlaced ps

-- the digits of an address's image after those of the root's image
abbrev mutual
  pub lift_digits : Placement → Address → Address
  lift_digits (leaf e) digits = []
  lift_digits (inner e ps) [] = []
  lift_digits (inner e ps) (i ∷ digits) = part ps i ++ digits_below ps i digits

  pub digits_below : Placements → ℕ → Address → Address
  digits_below none i digits = []
  digits_below (more p ps) zero digits = lift_digits p digits
  digits_below (more p ps) (suc i) digits = digits_below ps i digits

-- a leaf two levels below the root's image, and a node with two leaves one level below it
abbrev pub leaf_and_node : Placement
leaf_and_node = inner [] (more (leaf (1 ∷ 0 ∷ [])) (more (inner (0 ∷ []) (more (leaf (1 ∷ [])) (more (leaf (0 ∷ [])) none))) none))

pub lift_digits-leaf : lift_digits leaf_and_node (0 ∷ []) ≡ 1 ∷ 0 ∷ []
lift_digits-leaf = refl

pub lift_digits-below_the_node : lift_digits leaf_and_node (1 ∷ 0 ∷ []) ≡ 0 ∷ 1 ∷ []
lift_digits-below_the_node = refl

-- an equal first digit alone doesn't make a prefix
pub IsApartFrom-leaf_and_node : IsApartFrom (1 ∷ 0 ∷ []) (more (leaf (0 ∷ [])) (more (leaf (1 ∷ 1 ∷ [])) none))
IsApartFrom-leaf_and_node = (refl, refl, (refl, refl, tt))
