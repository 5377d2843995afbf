-- Embeddings of one topology in another (OOPSLA 2023).
use Rattle.std.specs.Prelude.{◌≡◌, ◌↔◌, []}
use Rattle.tree_defs.specs.Tree.{Address, IsAddressOf, LeadsToLeaf}
use Rattle.tree_defs.specs.Topology.{Topology, IsPrefixOf}

-- A map of addresses embeds s in t. The root's image is the root, images are addresses of t, and
-- leaves have leaves as images. One address is a prefix of another exactly if its image is a prefix
-- of the other's image. The map's values for lists that aren't addresses of s don't matter.
pub record IsEmbedding (s t : Topology) (image : Address → Address) : Type 0 where
  pub root : image [] ≡ []
  pub inside : (a : Address) → IsAddressOf s a → IsAddressOf t (image a)
  pub leaves : (a : Address) → LeadsToLeaf s a → LeadsToLeaf t (image a)
  pub prefixes : (a b : Address) → IsAddressOf s a → IsAddressOf s b → IsPrefixOf a b ↔ IsPrefixOf (image a) (image b)

abbrev pub HasEmbedding : Topology → Topology → Type 0
HasEmbedding s t = (image : Address → Address) × IsEmbedding s t image
