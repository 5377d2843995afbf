-- Consequences for composed maps, and for maps as trees of images.
use Rattle.std.specs.Prelude.{◌≡◌, List}
use Rattle.tree_defs.specs.Tree.{Tree, Address}
use Rattle.tree_defs.specs.Topology.{Topology}
use Rattle.embed_defs.specs.Embedding.{IsEmbedding}
use Rattle.embed_defs.specs.Images.{image_map}
use Rattle.embed_defs.specs.Preorder.{HoldsImages, image_in, tree_in}

-- the composition of an embedding of r in s and one of s in t is an embedding of r in t
abbrev pub EmbeddingsCompose : Type 0
EmbeddingsCompose = (r s t : Topology) (f g : Address → Address) → IsEmbedding r s f → IsEmbedding s t g → IsEmbedding r t (λ a. g (f a))

-- the tree that holds the images of an embedding is an embedding
abbrev pub TreesOfImagesEmbed : Type 0
TreesOfImagesEmbed = (s t : Topology) (image : Address → Address) (images : Tree Address) → HoldsImages s image images → IsEmbedding s t image → IsEmbedding s t (image_map images)

-- a map has exactly one tree of images
abbrev pub TreesOfImagesAreOne : Type 0
TreesOfImagesAreOne = (s : Topology) (image : Address → Address) (images others : Tree Address) → HoldsImages s image images → HoldsImages s image others → images ≡ others

-- the tree made from a list holds the images of the list
abbrev pub TreesInPreorderHoldTheImages : Type 0
TreesInPreorderHoldTheImages = (s : Topology) (images : List Address) → HoldsImages s (image_in s images) (tree_in s images)
