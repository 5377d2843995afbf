-- The lift of a source tree (OOPSLA 2023): the queues of a complete tree that schedules as the
-- source tree does.
use Rattle.std.specs.Prelude.{◌≡◌, ◌≢◌, refl, ℕ, zero, suc, ◌-◌, ◌≤◌, List, [], ◌∷◌, ◌++◌, length, Option, Some, None, option_map, nat_eq, replicate, filter_map, slice_index, drop, if◌then◌else◌}
use Rattle.tree_defs.specs.Queue.{Queue}
use Rattle.tree_defs.specs.Tree.{Tree, leaf, inner, Trees, none, more, Address, IsAddressOf, subtree, root_of}
use Rattle.tree_defs.specs.Topology.{IsPrefixOf}
use Rattle.tree_defs.specs.SourceTree.{SourceTree}
use Rattle.embed_defs.specs.Family.{Family}

-- the digit of the first address that follows the second, if the second is a proper prefix of the
-- first
abbrev pub digit_beyond : Address → Address → Option ℕ
digit_beyond [] b = None
digit_beyond (x ∷ a) [] = Some x
digit_beyond (x ∷ a) (y ∷ b) = if nat_eq x y then digit_beyond a b else None

-- the entries, in order, whose values map to a digit, with the value replaced by that digit
abbrev pub passing_by : (ℕ → Option ℕ) → Queue → Queue
passing_by digit q = filter_map (λ e. option_map (λ x. (e.0, x)) (digit e.1)) q

-- the longest address of the source tree whose image is a prefix of b
pub record IsLongestAt (t : SourceTree) (image : Address → Address) (b a : Address) : Type 0 where
  pub address : IsAddressOf t a
  pub above : IsPrefixOf (image a) b
  pub longest : (c : Address) → IsAddressOf t c → IsPrefixOf (image c) b → length c ≤ length a

-- The queue at b, where a is the longest source address whose image is a prefix of b, and u is the
-- source subtree at a. A leaf's queue is only at the leaf's image. An inner node's entry is at b if
-- the image of the child that it names extends b. There the child's index is replaced by the next
-- digit of that image.
abbrev pub StandsAt : (Address → Address) → Address → Address → SourceTree → Queue → Type 0
StandsAt image b a (leaf q) w = (image a ≡ b → w ≡ q) × (image a ≢ b → w ≡ [])
StandsAt image b a (inner q ts) w = w ≡ passing_by (λ i. digit_beyond (image (a ++ i ∷ [])) b) q

-- a family of queues is the lift of a source tree under a map of addresses
abbrev pub IsLift : SourceTree → (Address → Address) → Family → Type 0
IsLift t image F = (b a : Address) (u : SourceTree) → IsLongestAt t image b a → subtree t a ≡ Some u → StandsAt image b a u (F b)

-- ---- ranks on the path to a leaf
-- at each depth, the rank of the deepest node on the path whose image is at most that deep
abbrev mutual
  pub lift_ranks : Tree Address → Address → List ℕ → List ℕ
  lift_ranks (leaf e) digits ranks = slice_index ranks 0 ∷ []
  lift_ranks (inner e ts) [] ranks = slice_index ranks 0 ∷ []
  lift_ranks (inner e ts) (i ∷ digits) ranks = lift_ranks_below (length e) ts i digits ranks

  -- from the depth of the parent's image on
  pub lift_ranks_below : ℕ → Trees Address → ℕ → Address → List ℕ → List ℕ
  lift_ranks_below depth none i digits ranks = []
  lift_ranks_below depth (more t ts) zero digits ranks = replicate (length (root_of t) - depth) (slice_index ranks 0) ++ lift_ranks t digits (drop 1 ranks)
  lift_ranks_below depth (more t ts) (suc i) digits ranks = lift_ranks_below depth ts i digits ranks

-- for each node on the path, the rank at its image's depth
abbrev mutual
  pub picked_ranks : Tree Address → Address → List ℕ → List ℕ
  picked_ranks (leaf e) digits ranks = slice_index ranks (length e) ∷ []
  picked_ranks (inner e ts) [] ranks = slice_index ranks (length e) ∷ []
  picked_ranks (inner e ts) (i ∷ digits) ranks = slice_index ranks (length e) ∷ picked_ranks_below ts i digits ranks

  pub picked_ranks_below : Trees Address → ℕ → Address → List ℕ → List ℕ
  picked_ranks_below none i digits ranks = []
  picked_ranks_below (more t ts) zero digits ranks = picked_ranks t digits ranks
  picked_ranks_below (more t ts) (suc i) digits ranks = picked_ranks_below ts i digits ranks

pub digit_beyond-prefix : digit_beyond (0 ∷ 1 ∷ 0 ∷ []) (0 ∷ []) ≡ Some 1
digit_beyond-prefix = refl

pub digit_beyond-whole : digit_beyond (0 ∷ 1 ∷ []) (0 ∷ 1 ∷ []) ≡ None
digit_beyond-whole = refl

pub digit_beyond-stranger : digit_beyond (0 ∷ 1 ∷ []) (1 ∷ []) ≡ None
digit_beyond-stranger = refl

-- A leaf and a node with two leaves, embedded in the binary tree of height 3. Address 0 isn't an
-- image; its entries pass through to both.
abbrev pub with_transit : Tree Address
with_transit = inner [] (more (leaf (0 ∷ 1 ∷ 0 ∷ [])) (more (inner (0 ∷ 0 ∷ []) (more (leaf (0 ∷ 0 ∷ 0 ∷ [])) (more (leaf (0 ∷ 0 ∷ 1 ∷ [])) none))) none))

-- a leaf below a node below the root, embedded in the binary tree of height 2
abbrev pub chain : Tree Address
chain = inner [] (more (inner (0 ∷ []) (more (leaf (0 ∷ 0 ∷ [])) none)) none)

-- the images of the root's two children
abbrev pub image_of : ℕ → Address
image_of zero = 0 ∷ 1 ∷ 0 ∷ []
image_of (suc i) = 0 ∷ 0 ∷ []

pub lift_ranks-transit_node : lift_ranks with_transit (1 ∷ 0 ∷ []) (5 ∷ 7 ∷ 9 ∷ []) ≡ 5 ∷ 5 ∷ 7 ∷ 9 ∷ []
lift_ranks-transit_node = refl

pub lift_ranks-leaf_below_the_root : lift_ranks with_transit (0 ∷ []) (5 ∷ 9 ∷ []) ≡ 5 ∷ 5 ∷ 5 ∷ 9 ∷ []
lift_ranks-leaf_below_the_root = refl

pub lift_ranks-chain : lift_ranks chain (0 ∷ 0 ∷ []) (5 ∷ 7 ∷ 9 ∷ []) ≡ 5 ∷ 7 ∷ 9 ∷ []
lift_ranks-chain = refl

pub picked_ranks-transit_node : picked_ranks with_transit (1 ∷ 0 ∷ []) (5 ∷ 6 ∷ 7 ∷ 9 ∷ []) ≡ 5 ∷ 7 ∷ 9 ∷ []
picked_ranks-transit_node = refl

pub picked_ranks-chain : picked_ranks chain (0 ∷ 0 ∷ []) (5 ∷ 7 ∷ 9 ∷ []) ≡ 5 ∷ 7 ∷ 9 ∷ []
picked_ranks-chain = refl

-- three entries pass address 0 in order: the first and the last for the node, and the middle one
-- for the leaf
pub passing_by-both : passing_by (λ i. digit_beyond (image_of i) (0 ∷ [])) ((5, 1) ∷ (3, 0) ∷ (4, 1) ∷ []) ≡ (5, 0) ∷ (3, 1) ∷ (4, 0) ∷ []
passing_by-both = refl

-- at address 0 1 only the leaf's entry passes; at the node's own image no entry passes
pub passing_by-leaf_alone : passing_by (λ i. digit_beyond (image_of i) (0 ∷ 1 ∷ [])) ((5, 1) ∷ (3, 0) ∷ (4, 1) ∷ []) ≡ (3, 0) ∷ []
passing_by-leaf_alone = refl

pub passing_by-at_the_image : passing_by (λ i. digit_beyond (image_of i) (0 ∷ 0 ∷ [])) ((5, 1) ∷ (3, 0) ∷ (4, 1) ∷ []) ≡ []
passing_by-at_the_image = refl
