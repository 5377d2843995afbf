-- The number of nodes at which a push spills in the lift of a source tree.
use Rattle.std.specs.Prelude.{◌≡◌, refl, ℕ, List, [], ◌∷◌}
use Rattle.tree_defs.specs.Tree.{Tree, Address}
use Rattle.tree_defs.specs.SourceTree.{SourceTree}
use Rattle.embed_defs.specs.Family.{Family}
use Rattle.embed_defs.specs.Spills.{spills_along}
use Rattle.embed_defs.specs.Images.{image_map}
use Rattle.embed_defs.specs.Lift.{lift_ranks, with_transit}
use Rattle.embed_defs.specs.Lifting.{placement_of, lift, tied}

-- the queues of the complete tree in which the images embed a source tree
abbrev pub lift_of : Tree Address → SourceTree → Family
lift_of images t = lift t (placement_of images)

-- the number of nodes on the path to the image of a leaf at which a push spills, in the lift of the
-- tree before the push
abbrev pub push_spills : Tree Address → SourceTree → Address → List ℕ → ℕ
push_spills images t digits ranks = spills_along (image_map images digits) (lift_ranks images digits ranks) (lift_of images t)

-- the root's rank 3 passes those of rank 5 at the root, and in the transit node the two for the
-- same child
pub push_spills-transit_node : push_spills with_transit tied (1 ∷ 0 ∷ []) (3 ∷ 7 ∷ 4 ∷ []) ≡ 2
push_spills-transit_node = refl

pub push_spills-leaf_alone : push_spills with_transit tied (1 ∷ 0 ∷ []) (5 ∷ 7 ∷ 3 ∷ []) ≡ 1
push_spills-leaf_alone = refl

pub push_spills-everywhere : push_spills with_transit tied (1 ∷ 0 ∷ []) (3 ∷ 6 ∷ 3 ∷ []) ≡ 4
push_spills-everywhere = refl

-- ranks that tie with those queued pass nothing
pub push_spills-nowhere : push_spills with_transit tied (1 ∷ 0 ∷ []) (5 ∷ 7 ∷ 4 ∷ []) ≡ 0
push_spills-nowhere = refl

-- the entry of greater rank at the node is for its other child
pub push_spills-other_child : push_spills with_transit tied (1 ∷ 1 ∷ []) (5 ∷ 6 ∷ 4 ∷ []) ≡ 0
push_spills-other_child = refl
