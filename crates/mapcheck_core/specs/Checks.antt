-- The clauses of an embedding, as tests on node numbers.
use Rattle.std.specs.Prelude.{◌≡◌, ℕ, ◌-◌, ◌<◌, ◌≤◌, ◌==◌, nat_le, nat_lt, min, Bool, true, false, not, ◌&&◌, List, Option, Some, None, slice_index, slice_index_or, [], is_some}
use Rattle.tree_defs.specs.Tree.{Address}
use Rattle.tree_defs.specs.Topology.{Topology, after}
use Rattle.mapcheck_core.specs.declared.given.Given.{Given}
use Rattle.mapcheck_core.specs.declared.check.Demand.{Demand}
use Rattle.mapcheck_core.specs.declared.check.Demand.TheVariants as demand
use Rattle.mapcheck_core.specs.Numbers.{span_at, is_address, is_leaf_at}

-- an image breaks the condition for the node of a number
abbrev pub breaks : Demand → Topology → Topology → ℕ → Address → Bool
breaks demand.Address s t n e = not (is_address t e)
breaks demand.Leaf s t n e = (span_at s n == 1) && not (is_leaf_at t e)

abbrev pub breaks_at : Demand → Topology → Topology → Given → ℕ → Bool
breaks_at d s t g n = breaks d s t n (slice_index_or g.images n [])

-- the least line number among the first n nodes for which a test holds
abbrev pub IsLeast : (ℕ → Bool) → List ℕ → ℕ → Option ℕ → Type 0
IsLeast test lines n None = (i : ℕ) → i < n → test i ≡ false
IsLeast test lines n (Some least) = ((i : ℕ) × (i < n) × (test i ≡ true) × (least ≡ slice_index lines i)) × ((i : ℕ) → i < n → test i ≡ true → least ≤ slice_index lines i)

abbrev pub lower_of : Option ℕ → ℕ → ℕ
lower_of None n = n
lower_of (Some m) n = min m n

-- one address is a prefix of another
abbrev pub is_prefix : Address → Address → Bool
is_prefix a b = is_some (after a b)

-- whether a node is in the subtree of `span` nodes whose root is the node `first`
abbrev pub lies_in : ℕ → ℕ → ℕ → Bool
lies_in first span n = nat_le first n && nat_lt (n - first) span

abbrev pub image_at : Given → ℕ → Address
image_at g n = slice_index_or g.images n []

-- whether two tests differ
abbrev pub differ : Bool → Bool → Bool
differ true b = not b
differ false b = b

-- the node is in the subtree of another, but the other's image isn't a prefix of its image, or the
-- other way round
abbrev pub is_broken : Given → ℕ → ℕ → ℕ → Bool
is_broken g first span n = differ (lies_in first span n) (is_prefix (image_at g first) (image_at g n))

-- the least of the first n node numbers that is broken
abbrev pub IsFirstBroken : Given → ℕ → ℕ → ℕ → Option ℕ → Type 0
IsFirstBroken g first span n None = (i : ℕ) → i < n → is_broken g first span i ≡ false
IsFirstBroken g first span n (Some m) = (m < n) × (is_broken g first span m ≡ true) × ((i : ℕ) → i < m → is_broken g first span i ≡ false)

-- the first pair among the first n node numbers that is broken
abbrev pub IsFirstPair : Topology → Given → ℕ → Option (ℕ × ℕ) → Type 0
IsFirstPair s g n None = (a : ℕ) → a < n → IsFirstBroken g a (span_at s a) n None
IsFirstPair s g n (Some p) = (p.0 < n) × IsFirstBroken g p.0 (span_at s p.0) n (Some p.1) × ((a : ℕ) → a < p.0 → IsFirstBroken g a (span_at s a) n None)
