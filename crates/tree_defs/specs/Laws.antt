-- Laws that follow from the definitions of topologies and source trees.
use Rattle.std.specs.Prelude.{◌≡◌, ◌≢◌, ◌↔◌, ◌+◌, ℕ, List, [], ◌++◌, length, Some, None, slice_index}
use Rattle.tree_defs.specs.Queue.{Queue, put, take_least}
use Rattle.tree_defs.specs.Tree.{leaf, inner, Trees, Address, child, root_of, subtree, IsAddressOf, LeadsToLeaf, SameShape, Popping}
use Rattle.tree_defs.specs.Topology.{Topology, topology_of, after, complete, IsWithin}
use Rattle.tree_defs.specs.SourceTree.{SourceTree, empty_tree, push, pop, size, times, NamesChildren, IsWellFormed}
use Rattle.tree_defs.specs.Packets.{values, packets, queue_at, OneMore}

-- ---- topologies
abbrev pub LeafAddressesLeadToLeaves : Type 0
LeafAddressesLeadToLeaves = (t : Topology) (a : Address) → LeadsToLeaf t a ↔ (subtree t a ≡ Some (leaf tt))

abbrev pub PrefixesComeBefore : Type 0
PrefixesComeBefore = (a b c : Address) → (after a b ≡ Some c) ↔ (b ≡ a ++ c)

abbrev pub CompleteTreesHaveAllAddresses : Type 0
CompleteTreesHaveAllAddresses = (arities : List ℕ) (a : Address) → IsAddressOf (complete arities) a ↔ IsWithin arities a

abbrev pub CompleteTreesHaveDeepLeaves : Type 0
CompleteTreesHaveDeepLeaves = (arities : List ℕ) (a : Address) → LeadsToLeaf (complete arities) a ↔ IsWithin arities a × (length a ≡ length arities)

abbrev pub OneShapeIsOneTopology : Type 0
OneShapeIsOneTopology = (t u : SourceTree) → SameShape t u ↔ (topology_of t ≡ topology_of u)

-- ---- well-formed trees
-- at each inner node every value is a child's index, and each index occurs as often as the child
-- has packets
pub record IsWellFormedAt (q : Queue) (ts : Trees Queue) : Type 0 where
  pub names : NamesChildren ts q
  pub counts : (i : ℕ) (u : SourceTree) → child ts i ≡ Some u → times i q ≡ size u

abbrev pub WellFormedAtEachInnerNode : Type 0
WellFormedAtEachInnerNode = (t : SourceTree) → IsWellFormed t ↔ ((a : Address) (q : Queue) (ts : Trees Queue) → subtree t a ≡ Some (inner q ts) → IsWellFormedAt q ts)

abbrev pub EmptyTreesAreWellFormed : Type 0
EmptyTreesAreWellFormed = (t : Topology) → IsWellFormed (empty_tree t)

abbrev pub PushesKeepWellFormed : Type 0
PushesKeepWellFormed = (t : SourceTree) (digits ranks : List ℕ) (item : ℕ) → LeadsToLeaf t digits → IsWellFormed t → IsWellFormed (push t digits ranks item)

abbrev pub PopsKeepWellFormed : Type 0
PopsKeepWellFormed = (t : SourceTree) (r : Popping SourceTree) → pop t ≡ Some r → IsWellFormed t → IsWellFormed r.left

abbrev pub NothingIsPoppedFromAnEmptyRoot : Type 0
NothingIsPoppedFromAnEmptyRoot = (t : SourceTree) → IsWellFormed t → (pop t ≡ None) ↔ (root_of t ≡ [])

abbrev pub RootsHaveAnEntryForEachPacket : Type 0
RootsHaveAnEntryForEachPacket = (t : SourceTree) → IsWellFormed t → length (root_of t) ≡ size t

-- ---- sizes and topologies
abbrev pub EmptyTreesHoldNothing : Type 0
EmptyTreesHoldNothing = (t : Topology) → (size (empty_tree t) ≡ 0) × (packets (empty_tree t) ≡ []) × (topology_of (empty_tree t) ≡ t)

abbrev pub PushesAddOne : Type 0
PushesAddOne = (t : SourceTree) (digits ranks : List ℕ) (item : ℕ) → LeadsToLeaf t digits → size (push t digits ranks item) ≡ size t + 1

abbrev pub PopsTakeOne : Type 0
PopsTakeOne = (t : SourceTree) (r : Popping SourceTree) → pop t ≡ Some r → size t ≡ size r.left + 1

abbrev pub PushesKeepTheTopology : Type 0
PushesKeepTheTopology = (t : SourceTree) (digits ranks : List ℕ) (item : ℕ) → topology_of (push t digits ranks item) ≡ topology_of t

abbrev pub PopsKeepTheTopology : Type 0
PopsKeepTheTopology = (t : SourceTree) (r : Popping SourceTree) → pop t ≡ Some r → topology_of r.left ≡ topology_of t

-- a rank was taken at each node on the path to a leaf
pub record LedToALeaf (t : SourceTree) (r : Popping SourceTree) : Type 0 where
  pub leaf_address : LeadsToLeaf t r.digits
  pub ranks : length r.ranks ≡ length r.digits + 1

abbrev pub PopsLeadToLeaves : Type 0
PopsLeadToLeaves = (t : SourceTree) (r : Popping SourceTree) → pop t ≡ Some r → LedToALeaf t r

-- ---- packets
-- the leaves contain exactly this one packet more, at the leaf of the push
abbrev pub PushesAddThePacket : Type 0
PushesAddThePacket =
    (t : SourceTree) (digits ranks : List ℕ) (item : ℕ) → LeadsToLeaf t digits
    → OneMore (digits, item) (packets t) (packets (push t digits ranks item)) × OneMore item (values t) (values (push t digits ranks item))

-- the leaves contain exactly this one packet fewer, from the leaf of the pop
abbrev pub PopsTakeThePacket : Type 0
PopsTakeThePacket =
    (t : SourceTree) (r : Popping SourceTree) → pop t ≡ Some r
    → OneMore (r.digits, r.value) (packets r.left) (packets t) × OneMore r.value (values r.left) (values t)

-- the last rank and the packet are put last in the leaf's queue; the other leaves' queues are
-- unchanged
pub record PutAtTheLeaf (t : SourceTree) (digits ranks : List ℕ) (item : ℕ) (u : SourceTree) : Type 0 where
  pub here : queue_at u digits ≡ put (queue_at t digits) (slice_index ranks (length digits)) item
  pub elsewhere : (a : Address) → a ≢ digits → queue_at u a ≡ queue_at t a

abbrev pub PushesPutAtTheLeaf : Type 0
PushesPutAtTheLeaf = (t : SourceTree) (digits ranks : List ℕ) (item : ℕ) → LeadsToLeaf t digits → PutAtTheLeaf t digits ranks item (push t digits ranks item)

-- the packet is dequeued from the leaf's queue; the other leaves' queues are unchanged
pub record TakenAtTheLeaf (t : SourceTree) (r : Popping SourceTree) : Type 0 where
  pub here : take_least (queue_at t r.digits) ≡ Some (record { rank = slice_index r.ranks (length r.digits); value = r.value; rest = queue_at r.left r.digits })
  pub elsewhere : (a : Address) → a ≢ r.digits → queue_at r.left a ≡ queue_at t a

abbrev pub PopsTakeAtTheLeaf : Type 0
PopsTakeAtTheLeaf = (t : SourceTree) (r : Popping SourceTree) → pop t ≡ Some r → TakenAtTheLeaf t r
