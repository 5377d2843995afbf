-- Spills: pushes that pass a queued entry of a greater rank for the same child.
use Rattle.std.specs.Prelude.{◌≡◌, refl, ℕ, ◌+◌, Bool, true, false, ◌&&◌, List, [], ◌∷◌, nat_eq, nat_lt, slice_index, drop, if◌then◌else◌}
use Rattle.std.specs.List.{list_any}
use Rattle.tree_defs.specs.Queue.{Queue}
use Rattle.embed_defs.specs.Family.{Address, Family, below}

-- an inner node's queue has an entry with this digit and a greater rank
abbrev pub spills_for : ℕ → ℕ → Queue → Bool
spills_for rank digit q = list_any (λ e. nat_eq e.1 digit && nat_lt rank e.0) q

-- a leaf's queue has an entry with a greater rank
abbrev pub spills_at_leaf : ℕ → Queue → Bool
spills_at_leaf rank q = list_any (λ e. nat_lt rank e.0) q

abbrev pub counted : Bool → ℕ
counted b = if b then 1 else 0

-- the number of nodes on the path to an address at which a push spills, including the root and the
-- leaf
abbrev pub spills_along : Address → List ℕ → Family → ℕ
spills_along [] ranks F = counted (spills_at_leaf (slice_index ranks 0) (F []))
spills_along (x ∷ a) ranks F = counted (spills_for (slice_index ranks 0) x (F [])) + spills_along a (drop 1 ranks) (below F x)

-- entries for digits 0 and 1 are queued at the root, and one with rank 4 at the leaf of digit 1
abbrev pub waiting : Family
waiting [] = (6, 0) ∷ (3, 1) ∷ []
waiting (x ∷ b) = if nat_eq x 1 then (4, 9) ∷ [] else []

pub spills_for-own_child : spills_for 5 0 (waiting []) ≡ true
spills_for-own_child = refl

pub spills_for-other_child : spills_for 5 1 (waiting []) ≡ false
spills_for-other_child = refl

pub spills_for-same_rank : spills_for 6 0 (waiting []) ≡ false
spills_for-same_rank = refl

pub spills_along-leaf : spills_along [] (3 ∷ []) (below waiting 1) ≡ 1
spills_along-leaf = refl

pub spills_along-leaf_alone : spills_along (1 ∷ []) (5 ∷ 3 ∷ []) waiting ≡ 1
spills_along-leaf_alone = refl

pub spills_along-both : spills_along (1 ∷ []) (2 ∷ 3 ∷ []) waiting ≡ 2
spills_along-both = refl

pub spills_along-none : spills_along (1 ∷ []) (3 ∷ 4 ∷ []) waiting ≡ 0
spills_along-none = refl
