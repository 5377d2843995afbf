-- A tree laid into a complete tree of queues.
use Rattle.std.specs.Prelude.{◌≡◌, ◌+◌, ℕ, List, [], length, slice_get, unwrap_or, Some}
use Rattle.tree_defs.specs.Tree.{Tree, Address, LeadsToLeaf, SameShape}
use Rattle.tree_defs.specs.SourceTree.{SourceTree, pop, IsWellFormed}
use Rattle.tree_core.specs.Paths.{Way}
use Rattle.embed_defs.specs.Family.{Family, IsLeafAddress}
use Rattle.embed_defs.specs.Images.{image_map}
use Rattle.embed_defs.specs.Lift.{IsLift}
use Rattle.embed_defs.specs.GoodMaps.{IsGoodMap}
use Rattle.embed_core.specs.declared.lifted_path.LiftedPath.{LiftedPath}
use Rattle.embed_core.specs.LiftedPaths.{IsLiftedPathTo}
use Rattle.policy_defs.specs.Policy.{Policy, class_at, no_marks}

-- the image of each node, and the complete tree's arities from the root down
pub record Laid : Type 0 where
  pub images : Tree Address
  pub arities : List ℕ

-- a good map that maps leaves to leaves of the complete tree
pub record IsLaid (images : Tree Address) (arities : List ℕ) : Type 0 where
  pub good : IsGoodMap (length arities) images
  pub leaves : (a : Address) → LeadsToLeaf images a → IsLeafAddress arities (image_map images a)

-- each leaf of the tree is mapped to a leaf of the complete tree
abbrev pub MapsToLeaves : Tree Address → List ℕ → Type 0
MapsToLeaves images arities = (a : Address) → LeadsToLeaf images a → IsLeafAddress arities (image_map images a)

-- the leaf of each of a policy's classes
abbrev pub leaf_of : Policy → ℕ → Address
leaf_of policy n = (unwrap_or (class_at policy n) (record { marks = no_marks; leaf = [] })).leaf

-- a lifted path to the leaf of each class
pub record HasLiftedPaths (images : Tree Address) (policy : Policy) (lifted_paths : List LiftedPath) : Type 0 where
  pub whole : length lifted_paths ≡ length policy.classes
  pub each : (n : ℕ) (lifted_path : LiftedPath) → slice_get lifted_paths n ≡ Some lifted_path → IsLiftedPathTo images (leaf_of policy n) lifted_path

-- room for the digits and the ranks on the path to a leaf
pub record HasRoomForOne (images : Tree Address) (arities : List ℕ) (digits ranks : ℕ) : Type 0 where
  pub laid : IsLaid images arities
  pub levels : digits ≡ length arities
  pub one_more : ranks ≡ length arities + 1

-- the queues are the lift of a source tree
pub record HoldsLift (l : Laid) (queues : Family) (t : SourceTree) : Type 0 where
  pub well_formed : IsWellFormed t
  pub shape : SameShape t l.images
  pub lifted : IsLift t (image_map l.images) queues

-- a pop of the source tree gives this number on this path, and leaves a tree whose lift the queues
-- are
pub record PopsTo (l : Laid) (t : SourceTree) (number : ℕ) (way : Way) (queues : Family) : Type 0 where
  pub left : SourceTree
  pub popped : pop t ≡ Some (record { value = number; digits = way.digits; ranks = way.ranks; left = left })
  pub lift : HoldsLift l queues left
