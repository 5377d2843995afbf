-- The contents of a lifted path.
use Rattle.std.specs.Prelude.{◌≡◌, refl, ℕ, zero, suc, ◌+◌, List, [], ◌∷◌, length, slice_get, Some}
use Rattle.std.specs.List.{range_with_len}
use Rattle.tree_defs.specs.Tree.{Tree, leaf, inner, Trees, none, more, Address, LeadsToLeaf}
use Rattle.embed_defs.specs.Images.{image_map}
use Rattle.embed_defs.specs.Lift.{lift_ranks, with_transit, chain}
use Rattle.embed_core.specs.declared.lifted_path.LiftedPath.{LiftedPath}

-- for each node on the path, its image's depth
abbrev mutual
  pub image_depths : Tree Address → Address → List ℕ
  image_depths (leaf e) digits = length e ∷ []
  image_depths (inner e ts) [] = length e ∷ []
  image_depths (inner e ts) (i ∷ digits) = length e ∷ image_depths_below ts i digits

  pub image_depths_below : Trees Address → ℕ → Address → List ℕ
  image_depths_below none i digits = []
  image_depths_below (more t ts) zero digits = image_depths t digits
  image_depths_below (more t ts) (suc i) digits = image_depths_below ts i digits

-- It has the leaf's image and address. For each rank of a lift, it has the number of the step whose
-- rank it is. For each node on the path, it has the depth of the node's image.
pub record IsLiftedPathTo (images : Tree Address) (address : Address) (lifted : LiftedPath) : Type 0 where
  pub image : lifted.image.items ≡ image_map images address
  pub long : length lifted.steps.items ≡ length lifted.image.items + 1
  pub steps : lifted.steps.items ≡ lift_ranks images address (range_with_len 0 (length address + 1))
  pub address_is : lifted.address.items ≡ address
  pub depths : lifted.depths.items ≡ image_depths images address

-- it is the lifted path to a leaf
pub record IsLeafPath (images : Tree Address) (lifted : LiftedPath) : Type 0 where
  pub address : Address
  pub leaf : LeadsToLeaf images address
  pub leads : IsLiftedPathTo images address lifted

-- each of these is the lifted path to a leaf
abbrev pub AreLeafPaths : Tree Address → List LiftedPath → Type 0
AreLeafPaths images lifted_paths = (n : ℕ) (lifted : LiftedPath) → slice_get lifted_paths n ≡ Some lifted → IsLeafPath images lifted

pub image_depths-transit_node : image_depths with_transit (1 ∷ 0 ∷ []) ≡ 0 ∷ 2 ∷ 3 ∷ []
image_depths-transit_node = refl

pub image_depths-leaf_below_the_root : image_depths with_transit (0 ∷ []) ≡ 0 ∷ 3 ∷ []
image_depths-leaf_below_the_root = refl

pub image_depths-chain : image_depths chain (0 ∷ 0 ∷ []) ≡ 0 ∷ 1 ∷ 2 ∷ []
image_depths-chain = refl
