-- Consequences of the definition of the lift, for good maps.
use Rattle.std.specs.Prelude.{◌≡◌, ◌↔◌, ◌+◌, ◌<◌, ◌≤◌, ℕ, suc, List, length, take, Some, None, slice_index}
use Rattle.tree_defs.specs.Tree.{Tree, Address, IsAddressOf, LeadsToLeaf, SameShape, Popping}
use Rattle.tree_defs.specs.Topology.{Topology, complete}
use Rattle.tree_defs.specs.SourceTree.{SourceTree, empty_tree, push, pop, IsWellFormed}
use Rattle.embed_defs.specs.Family.{Family, push_along, pop_along, IsEmpty, SameQueues}
use Rattle.embed_defs.specs.Spills.{spills_along}
use Rattle.embed_defs.specs.Levels.{Arities}
use Rattle.embed_defs.specs.Embedding.{IsEmbedding}
use Rattle.embed_defs.specs.Need.{HasHeight}
use Rattle.embed_defs.specs.Canonical.{IsCanonical}
use Rattle.embed_defs.specs.Images.{image_map}
use Rattle.embed_defs.specs.Laws.{AreWide}
use Rattle.embed_defs.specs.Lift.{IsLift, lift_ranks, picked_ranks}
use Rattle.embed_defs.specs.GoodMaps.{IsGoodMap}
use Rattle.embed_defs.specs.Spilling.{lift_of, push_spills}

-- a good map of a source tree into a complete tree of height h
pub record Maps (h : ℕ) (t : SourceTree) (images : Tree Address) : Type 0 where
  pub shape : SameShape t images
  pub good : IsGoodMap h images

-- a source tree has a lift, and exactly the families with the same queues are its lift
pub record LiftsAreOne : Type 0 where
  pub some : (h : ℕ) (t : SourceTree) (images : Tree Address) → Maps h t images → (F : Family) × IsLift t (image_map images) F
  pub one : (h : ℕ) (t : SourceTree) (images : Tree Address) (F G : Family) → Maps h t images → IsLift t (image_map images) F → IsLift t (image_map images) G ↔ SameQueues G F

-- lift_of gives the lift of a source tree
abbrev pub LiftOfIsTheLift : Type 0
LiftOfIsTheLift = (h : ℕ) (t : SourceTree) (images : Tree Address) → Maps h t images → IsLift t (image_map images) (lift_of images t)

-- the lift of an empty tree is empty, and an empty family is its lift
abbrev pub EmptyTreesHaveEmptyLifts : Type 0
EmptyTreesHaveEmptyLifts = (h : ℕ) (t : Topology) (images : Tree Address) (F : Family) → Maps h (empty_tree t) images → IsLift (empty_tree t) (image_map images) F ↔ IsEmpty F

-- a push along a leaf's image with the lifted ranks gives the lift of the tree after the push
abbrev pub PushesOfLiftsAreLifts : Type 0
PushesOfLiftsAreLifts =
    (h : ℕ) (t : SourceTree) (images : Tree Address) (F G : Family) (digits ranks : List ℕ) (item : ℕ) → Maps h t images → LeadsToLeaf t digits → IsLift t (image_map images) F
    → SameQueues G (push_along (image_map images digits) (lift_ranks images digits ranks) item F) → IsLift (push t digits ranks item) (image_map images) G

-- A pop of the lift pops the same packet as the pop of the tree, with the image of its digits and
-- the lifted ranks. It leaves the lift of the tree left by the pop.
pub record IsLiftedPop (images : Tree Address) (r : Popping SourceTree) (p : Popping Family) : Type 0 where
  pub value : p.value ≡ r.value
  pub digits : p.digits ≡ image_map images r.digits
  pub ranks : p.ranks ≡ lift_ranks images r.digits r.ranks
  pub left : IsLift r.left (image_map images) p.left

-- the result of a pop of the family F
pub record PopsAsTheTree (h : ℕ) (t : SourceTree) (images : Tree Address) (F : Family) : Type 0 where
  pub nothing : pop t ≡ None → pop_along h F ≡ None
  pub packet : (r : Popping SourceTree) → pop t ≡ Some r → (p : Popping Family) × (pop_along h F ≡ Some p) × IsLiftedPop images r p

abbrev pub PopsOfLiftsAreLiftedPops : Type 0
PopsOfLiftsAreLiftedPops = (h : ℕ) (t : SourceTree) (images : Tree Address) (F : Family) → Maps h t images → IsWellFormed t → IsLift t (image_map images) F → PopsAsTheTree h t images F

-- a push and a pop leave the map valid
pub record MapsStay : Type 0 where
  pub push : (h : ℕ) (t : SourceTree) (images : Tree Address) (digits ranks : List ℕ) (item : ℕ) → Maps h t images → Maps h (push t digits ranks item) images
  pub pop : (h : ℕ) (t : SourceTree) (images : Tree Address) (r : Popping SourceTree) → pop t ≡ Some r → Maps h t images → Maps h r.left images

-- a push along a leaf's image with the lifted ranks spills at `push_spills` nodes, in any lift
abbrev pub SpillsOfLifts : Type 0
SpillsOfLifts =
    (h : ℕ) (t : SourceTree) (images : Tree Address) (F : Family) (digits ranks : List ℕ) → Maps h t images → LeadsToLeaf t digits → IsLift t (image_map images) F
    → spills_along (image_map images digits) (lift_ranks images digits ranks) F ≡ push_spills images t digits ranks

-- ---- reading a path back
-- a node is determined by its image
abbrev pub NodesHaveImagesOfTheirOwn : Type 0
NodesHaveImagesOfTheirOwn =
    (h : ℕ) (images : Tree Address) (a b : Address) → IsGoodMap h images → IsAddressOf images a → IsAddressOf images b
    → image_map images a ≡ image_map images b → a ≡ b

-- the ranks on the path can be read back from the lifted ones
abbrev pub PickedRanksAreThoseLifted : Type 0
PickedRanksAreThoseLifted =
    (h : ℕ) (images : Tree Address) (digits ranks : List ℕ) → IsGoodMap h images → LeadsToLeaf images digits → length ranks ≡ length digits + 1
    → picked_ranks images digits (lift_ranks images digits ranks) ≡ ranks

-- ---- ranks, stated by depth
-- node j of the path is the deepest whose image has at most k digits
pub record IsDeepestAt (images : Tree Address) (digits : Address) (k j : ℕ) : Type 0 where
  pub on_path : j ≤ length digits
  pub reached : length (image_map images (take j digits)) ≤ k
  pub deepest : j < length digits → k < length (image_map images (take (suc j) digits))

-- the lifted rank at each depth is that of the deepest node whose image is at most that deep
pub record AreLiftedRanks (images : Tree Address) (digits ranks lifted : List ℕ) : Type 0 where
  pub count : length lifted ≡ length (image_map images digits) + 1
  pub rank : (k j : ℕ) → k ≤ length (image_map images digits) → IsDeepestAt images digits k j → slice_index lifted k ≡ slice_index ranks j

abbrev pub LiftedRanksAreOfTheDeepest : Type 0
LiftedRanksAreOfTheDeepest = (h : ℕ) (images : Tree Address) (digits ranks : List ℕ) → IsGoodMap h images → LeadsToLeaf images digits → AreLiftedRanks images digits ranks (lift_ranks images digits ranks)

-- the picked rank of each node on the path is the rank at its image's depth
pub record ArePickedRanks (images : Tree Address) (digits ranks picked : List ℕ) : Type 0 where
  pub count : length picked ≡ length digits + 1
  pub rank : (j : ℕ) → j ≤ length digits → slice_index picked j ≡ slice_index ranks (length (image_map images (take j digits)))

abbrev pub PickedRanksAreThoseAtTheImages : Type 0
PickedRanksAreThoseAtTheImages = (images : Tree Address) (digits ranks : List ℕ) → LeadsToLeaf images digits → ArePickedRanks images digits ranks (picked_ranks images digits ranks)

-- ---- the canonical placement
-- if there is room for the canonical placement, it is a good map
abbrev pub CanonicalMapsAreGood : Type 0
CanonicalMapsAreGood = (a : Arities) (h : ℕ) (t : Topology) (images : Tree Address) → AreWide a → (c : IsCanonical a h t images) → HasHeight h c.all → SameShape t images × IsGoodMap h images

-- ---- embeddings
-- the images of an embedding in a complete tree are a good map
abbrev pub EmbeddingsAreGoodMaps : Type 0
EmbeddingsAreGoodMaps = (arities : List ℕ) (t : Topology) (images : Tree Address) → SameShape t images → IsEmbedding t (complete arities) (image_map images) → IsGoodMap (length arities) images
