-- The lift as a function by recursion on a source tree and a placement together. Proofs use it.
use Rattle.std.specs.Prelude.{◌≡◌, refl, ℕ, zero, suc, List, [], ◌∷◌, ◌++◌, length, Option, Some, None, option_map, unwrap_or, replicate, slice_index, drop}
use Rattle.tree_defs.specs.Queue.{Queue}
use Rattle.tree_defs.specs.Tree.{Tree, leaf, inner, Trees, none, more, Address, Popping, root_of}
use Rattle.tree_defs.specs.Topology.{after}
use Rattle.tree_defs.specs.SourceTree.{pop}
use Rattle.embed_defs.specs.Family.{Family}
use Rattle.embed_defs.specs.Placed.{Placement, Placements, part, lift_digits, digits_below}
use Rattle.embed_defs.specs.Images.{image_map}
use Rattle.embed_defs.specs.Lift.{digit_beyond, passing_by, StandsAt, with_transit}

-- each image without the n digits of its parent's image
abbrev mutual
  pub relative : ℕ → Tree Address → Placement
  relative n (leaf e) = leaf (drop n e)
  relative n (inner e ts) = inner (drop n e) (relatives (length e) ts)

  pub relatives : ℕ → Trees Address → Placements
  relatives n none = none
  relatives n (more t ts) = more (relative n t) (relatives n ts)

abbrev pub placement_of : Tree Address → Placement
placement_of = relative 0

-- the digit at b of an entry with value i: the next digit of child i's image, if that image is
-- below b
abbrev pub digit_at : Placements → Address → ℕ → Option ℕ
digit_at ps b i = digit_beyond (part ps i) b

-- the entries of those children whose images are below b
abbrev pub passing : Placements → Queue → Family
passing ps q b = passing_by (digit_at ps b) q

abbrev pub first_of_two : {A : Type 0} → Option A → Option A → Option A
first_of_two None o = o
first_of_two (Some q) o = Some q

-- the queue at b, an address below the image of the root of the tree
abbrev mutual
  pub lift : Tree Queue → Placement → Family
  lift (leaf q) p [] = q
  lift (leaf q) p (x ∷ b) = []
  lift (inner q ts) (leaf e) b = []
  lift (inner q ts) (inner e ps) b = unwrap_or (lift_below ts ps b) (passing ps q b)

  -- the queue at b, if b is at or below the image of one of the children
  pub lift_below : Trees Queue → Placements → Address → Option Queue
  lift_below none ps b = None
  lift_below (more t ts) none b = None
  lift_below (more t ts) (more p ps) b = first_of_two (option_map (lift t p) (after (root_of p) b)) (lift_below ts ps b)

-- the queues at and below the image of child i
abbrev pub lift_child : Trees Queue → Placements → ℕ → Family
lift_child none ps i b = []
lift_child (more t ts) none i b = []
lift_child (more t ts) (more p ps) zero b = lift t p b
lift_child (more t ts) (more p ps) (suc i) b = lift_child ts ps i b

-- at each depth below the root's image, the rank of the deepest node on the path whose image is at
-- most that deep
abbrev mutual
  pub placed_ranks : Placement → Address → List ℕ → List ℕ
  placed_ranks (leaf e) digits ranks = slice_index ranks 0 ∷ []
  placed_ranks (inner e ps) [] ranks = slice_index ranks 0 ∷ []
  placed_ranks (inner e ps) (i ∷ digits) ranks = replicate (length (part ps i)) (slice_index ranks 0) ++ placed_ranks_below ps i digits (drop 1 ranks)

  pub placed_ranks_below : Placements → ℕ → Address → List ℕ → List ℕ
  placed_ranks_below none i digits ranks = []
  placed_ranks_below (more p ps) zero digits ranks = placed_ranks p digits ranks
  placed_ranks_below (more p ps) (suc i) digits ranks = placed_ranks_below ps i digits ranks

-- the lifted form of a pop of the tree: the matching pop of the complete tree
abbrev pub lifted : Placement → Popping (Tree Queue) → Popping Family
lifted p r = record { value = r.value; digits = lift_digits p r.digits; ranks = placed_ranks p r.digits r.ranks; left = lift r.left p }

abbrev pub lifted_child : Placements → ℕ → Popping (Trees Queue) → Popping Family
lifted_child ps i r = record { value = r.value; digits = digits_below ps i r.digits; ranks = placed_ranks_below ps i r.digits r.ranks; left = lift_child r.left ps i }

-- Three packets of one rank at the root, the first and the last for the node's leaves. They tie in
-- the transit node too.
abbrev pub tied : Tree Queue
tied = inner ((5, 1) ∷ (5, 0) ∷ (5, 1) ∷ []) (more (leaf ((9, 2) ∷ [])) (more (inner ((7, 0) ∷ (6, 1) ∷ []) (more (leaf ((4, 1) ∷ [])) (more (leaf ((4, 3) ∷ [])) none))) none))

pub lift-root : lift tied (placement_of with_transit) [] ≡ (5, 0) ∷ (5, 0) ∷ (5, 0) ∷ []
lift-root = refl

pub lift-transit_node : lift tied (placement_of with_transit) (0 ∷ []) ≡ (5, 0) ∷ (5, 1) ∷ (5, 0) ∷ []
lift-transit_node = refl

pub lift-node : lift tied (placement_of with_transit) (0 ∷ 0 ∷ []) ≡ (7, 0) ∷ (6, 1) ∷ []
lift-node = refl

pub lift-beside_the_leaf : lift tied (placement_of with_transit) (0 ∷ 1 ∷ []) ≡ (5, 0) ∷ []
lift-beside_the_leaf = refl

pub lift-elsewhere : lift tied (placement_of with_transit) (1 ∷ 0 ∷ []) ≡ []
lift-elsewhere = refl

-- each image without its parent's
pub placement_of-with_transit : placement_of with_transit ≡ inner [] (more (leaf (0 ∷ 1 ∷ 0 ∷ [])) (more (inner (0 ∷ 0 ∷ []) (more (leaf (0 ∷ [])) (more (leaf (1 ∷ [])) none))) none))
placement_of-with_transit = refl

-- the root's rank is also the rank at the transit node
pub placed_ranks-transit_node : placed_ranks (placement_of with_transit) (1 ∷ 0 ∷ []) (5 ∷ 7 ∷ 9 ∷ []) ≡ 5 ∷ 5 ∷ 7 ∷ 9 ∷ []
placed_ranks-transit_node = refl

-- The first entry at the root is for the node. The node's second entry has its least rank, so
-- packet 3 departs.
abbrev pub at_root : Popping Family → Popping Queue
at_root p = record { value = p.value; digits = p.digits; ranks = p.ranks; left = p.left [] }

abbrev pub popped_there : Option (Popping Queue)
popped_there = option_map (λ r. at_root (lifted (placement_of with_transit) r)) (pop tied)

pub lifted-tied : popped_there ≡ Some (record { value = 3; digits = 0 ∷ 0 ∷ 1 ∷ []; ranks = 5 ∷ 5 ∷ 6 ∷ 4 ∷ []; left = (5, 0) ∷ (5, 0) ∷ [] })
lifted-tied = refl

-- the definition of the lift at three of these addresses, by the longest address whose image is a
-- prefix
pub StandsAt-transit_node : StandsAt (image_map with_transit) (0 ∷ []) [] tied ((5, 0) ∷ (5, 1) ∷ (5, 0) ∷ [])
StandsAt-transit_node = refl

pub StandsAt-leaf : StandsAt (image_map with_transit) (0 ∷ 1 ∷ 0 ∷ []) (0 ∷ []) (leaf ((9, 2) ∷ [])) ((9, 2) ∷ [])
StandsAt-leaf = (λ _. refl, λ n. absurd (n refl))

pub StandsAt-beside_the_leaf : StandsAt (image_map with_transit) (0 ∷ 1 ∷ []) [] tied ((5, 0) ∷ [])
StandsAt-beside_the_leaf = refl
