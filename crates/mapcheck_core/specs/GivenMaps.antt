-- A given map from one topology to another: an image and a line number for each node, in preorder.
use Rattle.std.specs.Prelude.{◌≡◌, ℕ, ◌<◌, ◌≤◌, ◌⊎◌, ◌↔◌, [], Option, Some, None, length, slice_index}
use Rattle.tree_defs.specs.Tree.{Address, IsAddressOf, LeadsToLeaf, nodes, depth, most_nodes, most_levels}
use Rattle.tree_defs.specs.Topology.{Topology, IsPrefixOf, IsBranched}
use Rattle.embed_defs.specs.Embedding.{IsEmbedding}
use Rattle.embed_defs.specs.Preorder.{number_of, image_in}
use Rattle.mapcheck_core.specs.declared.given.Given.{Given}
use Rattle.mapcheck_core.specs.declared.fault.MapFault.{MapFault}
use Rattle.mapcheck_core.specs.declared.fault.MapFault.TheVariants as fault

-- at most 1,024 nodes and 64 levels, and each inner node has a child
pub record IsWithinLimits (t : Topology) : Type 0 where
  pub few : nodes t ≤ most_nodes
  pub low : depth t ≤ most_levels
  pub branched : IsBranched t

-- one image and one line number for each node
pub record IsGivenFor (s : Topology) (g : Given) : Type 0 where
  pub images : length g.images ≡ nodes s
  pub lines : length g.lines ≡ nodes s

-- the image of an address is at the index of its number
abbrev pub image_of : Topology → Given → Address → Address
image_of s g = image_in s g.images

-- its line number is at the same index
abbrev pub line_of : Topology → Given → Address → ℕ
line_of s g a = slice_index g.lines (number_of s a)

-- the image of an address isn't an address of t
abbrev pub IsOutside : Topology → Topology → Given → Address → Type 0
IsOutside s t g a = ¬ IsAddressOf t (image_of s g a)

-- a leaf whose image isn't a leaf
abbrev pub MissesLeaf : Topology → Topology → Given → Address → Type 0
MissesLeaf s t g a = LeadsToLeaf s a × ¬ LeadsToLeaf t (image_of s g a)

-- one address is a prefix of another exactly if its image is a prefix of the other's image
abbrev pub KeepsPrefix : Topology → Given → Address → Address → Type 0
KeepsPrefix s g a b = IsPrefixOf a b ↔ IsPrefixOf (image_of s g a) (image_of s g b)

abbrev pub HoldsNowhere : Topology → (Address → Type 0) → Type 0
HoldsNowhere s P = (a : Address) → IsAddressOf s a → ¬ P a

-- the least line number of an address with the property P
pub record IsLeastLine (s : Topology) (g : Given) (P : Address → Type 0) (n : ℕ) : Type 0 where
  pub address : Address
  pub inside : IsAddressOf s address
  pub holds : P address
  pub line : n ≡ line_of s g address
  pub least : (a : Address) → IsAddressOf s a → P a → n ≤ line_of s g a

-- The numbers of the first two addresses that break the prefix condition: the least a, then the
-- least b.
pub record IsLeastPair (s : Topology) (g : Given) (a b : ℕ) : Type 0 where
  pub first : Address
  pub second : Address
  pub first_inside : IsAddressOf s first
  pub second_inside : IsAddressOf s second
  pub first_number : a ≡ number_of s first
  pub second_number : b ≡ number_of s second
  pub broken : ¬ KeepsPrefix s g first second
  pub least : (x y : Address) → IsAddressOf s x → IsAddressOf s y → ¬ KeepsPrefix s g x y → (a < number_of s x) ⊎ ((a ≡ number_of s x) × (b ≤ number_of s y))

-- each image is an address of t
abbrev pub IsInside : Topology → Topology → Given → Type 0
IsInside s t g = HoldsNowhere s (IsOutside s t g)

-- the root has the root as its image
abbrev pub KeepsRoot : Topology → Given → Type 0
KeepsRoot s g = image_of s g [] ≡ []

-- leaves have leaves as images
abbrev pub KeepsLeaves : Topology → Topology → Given → Type 0
KeepsLeaves s t g = HoldsNowhere s (MissesLeaf s t g)

-- the first clause of an embedding of s in t that the map breaks, with its line or nodes
pub data Breaks (s t : Topology) (g : Given) : MapFault → Type 0 where
  outside : (n : ℕ) → IsLeastLine s g (IsOutside s t g) n → Breaks s t g (fault.NoAddress n)
  root : (n : ℕ) → IsInside s t g → ¬ KeepsRoot s g → n ≡ line_of s g [] → Breaks s t g (fault.Root n)
  leaf : (n : ℕ) → IsInside s t g → KeepsRoot s g → IsLeastLine s g (MissesLeaf s t g) n → Breaks s t g (fault.Leaf n)
  prefix : (a b : ℕ) → IsInside s t g → KeepsRoot s g → KeepsLeaves s t g → IsLeastPair s g a b → Breaks s t g (fault.Prefix a b)

-- either no clause is broken and the map is an embedding, or the first broken clause
abbrev pub IsVerdict : Topology → Topology → Given → Option MapFault → Type 0
IsVerdict s t g None = IsEmbedding s t (image_of s g)
IsVerdict s t g (Some f) = Breaks s t g f
