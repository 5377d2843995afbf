-- The image of each node of a topology, as a tree of that topology.
use Rattle.std.specs.Prelude.{◌≡◌, refl, Option, Some, None, [], ◌∷◌, option_map, unwrap_or}
use Rattle.tree_defs.specs.Tree.{Tree, leaf, inner, none, more, Address, subtree, root_of}

-- the image of the node at an address
abbrev pub image_at : Tree Address → Address → Option Address
image_at t a = option_map root_of (subtree t a)

-- the map from addresses to images; a list that isn't an address has the root's image
abbrev pub image_map : Tree Address → Address → Address
image_map t a = unwrap_or (image_at t a) []

pub image_at-leaf : image_at (inner [] (more (leaf (1 ∷ 0 ∷ [])) none)) (0 ∷ []) ≡ Some (1 ∷ 0 ∷ [])
image_at-leaf = refl

pub image_at-nowhere : image_at (inner [] (more (leaf (1 ∷ 0 ∷ [])) none)) (1 ∷ []) ≡ None
image_at-nowhere = refl
