-- The order of a target's nodes: first the images of the policy's nodes by number, then those of the
-- classes' leaves, each after the nodes above it.
use Rattle.std.specs.Prelude.{◌≡◌, refl, ℕ, zero, suc, ◌+◌, if◌then◌else◌, nat_eq, List, [], ◌∷◌, ◌++◌, length, map, take}
use Rattle.std.specs.List.{list_any}
use Rattle.std.specs.Cmp.Lexicographic.{pointwise}
use Rattle.tree_defs.specs.Tree.{Address, nodes}
use Rattle.policy_core.specs.Numbering.{address_at}
use Rattle.policy_defs.specs.Policy.{Policy}
use Rattle.embed_defs.specs.Images.{image_map}
use Rattle.embed_defs.specs.Lift.{with_transit}
use Rattle.sched_embedded.specs.Laid.{Laid, leaf_of}
use Rattle.size_core.specs.Paths.{Keys}

-- the addresses of nodes by index
abbrev pub addresses : Keys → List Address
addresses known = map (λ k. k.items) known

-- an address that isn't there yet goes last
abbrev pub add : List Address → Address → List Address
add known b = if list_any (pointwise nat_eq b) known then known else known ++ b ∷ []

-- the first prefixes of an address, the shortest first
abbrev pub add_prefixes : List Address → Address → ℕ → List Address
add_prefixes known a zero = known
add_prefixes known a (suc n) = add (add_prefixes known a n) (take n a)

-- an address, after all nodes above it
abbrev pub add_path : List Address → Address → List Address
add_path known a = add_prefixes known a (length a + 1)

-- the first addresses of a sequence, in turn
abbrev pub add_paths : (ℕ → Address) → ℕ → List Address → List Address
add_paths f zero known = known
add_paths f (suc n) known = add_path (add_paths f n known) (f n)

-- the images of the policy's nodes, and then those of the classes' leaves
abbrev pub places : Laid → Policy → List Address
places l policy =
    add_paths (λ n. image_map l.images (leaf_of policy n)) (length policy.classes)
    (add_paths (λ n. image_map l.images (address_at policy.tree n)) (nodes policy.tree) ([] ∷ []))

-- the transit nodes 0 and 0 1 are before the nodes that they lead to
pub add_paths-transit : add_paths (λ n. image_map with_transit (address_at with_transit n)) 5 ([] ∷ [])
    ≡ [] ∷ (0 ∷ []) ∷ (0 ∷ 1 ∷ []) ∷ (0 ∷ 1 ∷ 0 ∷ []) ∷ (0 ∷ 0 ∷ []) ∷ (0 ∷ 0 ∷ 0 ∷ []) ∷ (0 ∷ 0 ∷ 1 ∷ []) ∷ []
add_paths-transit = refl
