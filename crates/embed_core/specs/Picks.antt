-- The result of reading a path back from an image.
use Rattle.std.specs.Prelude.{◌≡◌, ℕ, List, ◌++◌}
use Rattle.tree_defs.specs.Tree.{Tree, Address, LeadsToLeaf}
use Rattle.tree_core.specs.Paths.{Way}
use Rattle.embed_defs.specs.Images.{image_map}
use Rattle.embed_defs.specs.Lift.{picked_ranks}

-- a path leads to the leaf with this image
pub record LeadsToImage (m : Tree Address) (image path : Address) : Type 0 where
  pub leaf : LeadsToLeaf m path
  pub image_is : image_map m path ≡ image

-- an address is the image of a leaf
abbrev pub IsLeafImage : Tree Address → Address → Type 0
IsLeafImage m image = (path : Address) × LeadsToImage m image path

-- the path to the leaf with this image is appended, with the rank at the image's depth for each
-- node on it
pub record PicksOnto (m : Tree Address) (image : Address) (ranks : List ℕ) (before after : Way) : Type 0 where
  pub path : Address
  pub leads : LeadsToImage m image path
  pub digits : after.digits ≡ before.digits ++ path
  pub ranks_are : after.ranks ≡ before.ranks ++ picked_ranks m path ranks
  pub room : after.room ≡ before.room
