-- Properties of a calm policy that are known before a run.
use Rattle.std.specs.Prelude.{◌≡◌, ◌≢◌, ◌<◌, ℕ, Some, List, [], ◌∷◌, ◌++◌, length, slice_index}
use Rattle.tree_defs.specs.Tree.{Tree, Address, IsAddressOf, SameShape, subtree}
use Rattle.tree_defs.specs.Topology.{topology_of, complete}
use Rattle.embed_defs.specs.Embedding.{IsEmbedding}
use Rattle.embed_defs.specs.Images.{image_map}
use Rattle.policy_defs.specs.Policy.{Policy, Node}
use Rattle.sched_defs.specs.SourceState.{start}
use Rattle.sched_defs.specs.Events.{Event, CanMake}
use Rattle.block_replay.specs.CalmLaws.{NoneSpills, UsesSteady}

-- the image of each node of a tree, under an embedding into a complete tree
pub record IsMapOf (tree : Tree Node) (images : Tree Address) : Type 0 where
  pub arities : List ℕ
  pub shape : SameShape (topology_of tree) images
  pub embedding : IsEmbedding (topology_of tree) (complete arities) (image_map images)

-- for every sequence of events that can be made from the start, no push spills
abbrev pub NeverSpills : Policy → Tree Address → Type 0
NeverSpills policy images = (events : List Event) → CanMake policy events (start policy) → NoneSpills images policy events (start policy)

-- ---- node by node
-- the node at an address uses a steady transaction, or `fifo` if it is a leaf
abbrev pub UsesSteadyAt : Tree Node → Address → Type 0
UsesSteadyAt tree a = (u : Tree Node) → subtree tree a ≡ Some u → UsesSteady u

-- the digit of a child's image that follows its parent's image
abbrev pub digit_at : Tree Address → Address → ℕ → ℕ
digit_at images a i = slice_index (image_map images (a ++ i ∷ [])) (length (image_map images a))

-- no earlier child has the digit of this one
abbrev pub HasOwnDigit : Tree Address → Address → ℕ → Type 0
HasOwnDigit images a i = (j : ℕ) → j < i → digit_at images a j ≢ digit_at images a i

-- no two children of the node at an address have the same digit
abbrev pub HaveOwnDigits : Tree Address → Address → Type 0
HaveOwnDigits images a = (i : ℕ) → IsAddressOf images (a ++ i ∷ []) → HasOwnDigit images a i
