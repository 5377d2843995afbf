-- The images of the nodes of a topology: in a list in preorder, and in a tree.
use Rattle.std.specs.Prelude.{◌≡◌, refl, ℕ, zero, suc, ◌+◌, List, [], ◌∷◌, map, drop, slice_index_or}
use Rattle.tree_defs.specs.Tree.{Tree, leaf, inner, Trees, none, more, Address, IsAddressOf, SameShape, nodes}
use Rattle.tree_defs.specs.Topology.{Topology, office}
use Rattle.embed_defs.specs.Images.{image_map}

-- the number of an address in preorder: the root has 0, each node is before its children, and the
-- children are in order
abbrev mutual
  pub number_of : Topology → Address → ℕ
  number_of (leaf u) a = 0
  number_of (inner u ts) [] = 0
  number_of (inner u ts) (i ∷ a) = suc (number_below ts i a)

  pub number_below : Trees (Unit {0}) → ℕ → Address → ℕ
  number_below none i a = 0
  number_below (more t ts) zero a = number_of t a
  number_below (more t ts) (suc i) a = nodes t + number_below ts i a

-- the image of an address is at the index of its number
abbrev pub image_in : Topology → List Address → Address → Address
image_in s images a = slice_index_or images (number_of s a) []

-- the tree that holds them: a node's image is first, followed by the images below it
abbrev mutual
  pub tree_in : Topology → List Address → Tree Address
  tree_in (leaf u) images = leaf (slice_index_or images 0 [])
  tree_in (inner u ts) images = inner (slice_index_or images 0 []) (trees_in ts (drop 1 images))

  pub trees_in : Trees (Unit {0}) → List Address → Trees Address
  trees_in none images = none
  trees_in (more t ts) images = more (tree_in t images) (trees_in ts (drop (nodes t) images))

-- a tree of the shape of s that holds each node's image
pub record HoldsImages (s : Topology) (image : Address → Address) (images : Tree Address) : Type 0 where
  pub shape : SameShape s images
  pub each : (a : Address) → IsAddressOf s a → image_map images a ≡ image a

office_in_preorder : map (number_of office) ([] ∷ (0 ∷ []) ∷ (1 ∷ []) ∷ (1 ∷ 0 ∷ []) ∷ (1 ∷ 1 ∷ []) ∷ []) ≡ 0 ∷ 1 ∷ 2 ∷ 3 ∷ 4 ∷ []
office_in_preorder = refl

image_of_the_last_leaf : image_in office ([] ∷ (1 ∷ []) ∷ (0 ∷ []) ∷ (0 ∷ 0 ∷ []) ∷ (0 ∷ 1 ∷ []) ∷ []) (1 ∷ 1 ∷ []) ≡ 0 ∷ 1 ∷ []
image_of_the_last_leaf = refl

tree_of_office : tree_in office ([] ∷ (1 ∷ []) ∷ (0 ∷ []) ∷ (0 ∷ 0 ∷ []) ∷ (0 ∷ 1 ∷ []) ∷ []) ≡ inner [] (more (leaf (1 ∷ [])) (more (inner (0 ∷ []) (more (leaf (0 ∷ 0 ∷ [])) (more (leaf (0 ∷ 1 ∷ [])) none))) none))
tree_of_office = refl
