-- Consequences of the definitions of embeddings and of the canonical placement.
use Rattle.std.specs.Prelude.{◌≡◌, ◌↔◌, ◌⊎◌, ℕ, ◌≤◌, []}
use Rattle.tree_defs.specs.Tree.{Tree, Address}
use Rattle.tree_defs.specs.Topology.{Topology, complete}
use Rattle.embed_defs.specs.Levels.{Arities, down_from}
use Rattle.embed_defs.specs.Embedding.{IsEmbedding, HasEmbedding}
use Rattle.embed_defs.specs.Need.{IsLeast, AreNeedsOf, IsNeed, HasHeight}
use Rattle.embed_defs.specs.Canonical.{canonical, IsCanonical}
use Rattle.embed_defs.specs.Images.{image_map}

-- each node of a complete tree above the leaves has at least two children
abbrev pub AreWide : Arities → Type 0
AreWide a = (h : ℕ) → 2 ≤ a h

-- each topology has a need, and only one
pub record TopologiesHaveOneNeed : Type 0 where
  pub one : (a : Arities) (t : Topology) (m n : ℕ) → IsNeed a t m → IsNeed a t n → m ≡ n
  pub some : (a : Arities) (t : Topology) → AreWide a → (n : ℕ) × IsNeed a t n

-- the need is the least height of a complete tree in which there is an embedding
abbrev pub NeedsAreLeastHeights : Type 0
NeedsAreLeastHeights = (a : Arities) (t : Topology) (n : ℕ) → AreWide a → IsNeed a t n → IsLeast (λ h. HasEmbedding t (complete (down_from a h))) n

-- an embedding exists exactly if there is room for the needs
abbrev pub EmbeddingsNeedRoom : Type 0
EmbeddingsNeedRoom = (a : Arities) (t : Topology) (all : Tree ℕ) (h : ℕ) → AreWide a → AreNeedsOf a t all → HasEmbedding t (complete (down_from a h)) ↔ HasHeight h all

-- if there is room, the canonical placement is an embedding
abbrev pub CanonicalPlacementsAreEmbeddings : Type 0
CanonicalPlacementsAreEmbeddings =
    (a : Arities) (t : Topology) (all : Tree ℕ) (h : ℕ) → AreWide a → AreNeedsOf a t all → HasHeight h all
    → IsEmbedding t (complete (down_from a h)) (image_map (canonical a h [] all))

-- there is one canonical placement
abbrev pub CanonicalPlacementsAreOne : Type 0
CanonicalPlacementsAreOne = (a : Arities) (h : ℕ) (t : Topology) (images others : Tree Address) → IsCanonical a h t images → IsCanonical a h t others → images ≡ others

-- either a topology's canonical placement is an embedding in the complete tree of height h, or
-- there is no embedding in it
abbrev pub PlacementsAreThereOrNone : Type 0
PlacementsAreThereOrNone =
    (a : Arities) (h : ℕ) (t : Topology) → AreWide a
    → ((images : Tree Address) × IsCanonical a h t images × IsEmbedding t (complete (down_from a h)) (image_map images))
    ⊎ (HasEmbedding t (complete (down_from a h)) → ⊥)
