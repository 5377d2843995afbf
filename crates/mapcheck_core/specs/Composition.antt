-- The composition of a map into a topology with a map of that topology into another.
use Rattle.std.specs.Prelude.{◌≡◌, refl, [], ◌∷◌, map}
use Rattle.tree_defs.specs.Tree.{Tree, leaf, inner, none, more, Address}
use Rattle.tree_defs.specs.Topology.{Topology}
use Rattle.embed_defs.specs.Images.{image_map}
use Rattle.embed_defs.specs.Preorder.{HoldsImages}

-- the tree holds, for each node of s, its image mapped through the placement
abbrev pub IsComposed : Topology → (Address → Address) → Tree Address → Tree Address → Type 0
IsComposed s image placement images = HoldsImages s (λ a. image_map placement (image a)) images

-- two leaves, then a node with one leaf, in the binary tree of height 2
abbrev pub row : Tree Address
row = inner [] (more (leaf (1 ∷ 0 ∷ [])) (more (leaf (1 ∷ 1 ∷ [])) (more (inner (0 ∷ []) (more (leaf (0 ∷ 0 ∷ [])) none)) none)))

-- three leaves that are mapped to the two and to the one
row-three_leaves : map (image_map row) ([] ∷ (0 ∷ []) ∷ (1 ∷ []) ∷ (2 ∷ 0 ∷ []) ∷ []) ≡ [] ∷ (1 ∷ 0 ∷ []) ∷ (1 ∷ 1 ∷ []) ∷ (0 ∷ 0 ∷ []) ∷ []
row-three_leaves = refl
