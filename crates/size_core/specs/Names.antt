-- The names of the policy's nodes that the nodes of a target serve.
use Rattle.std.specs.Prelude.{◌≡◌, ◌<◌, ℕ, Option, Some, MatchOption, List, slice_get}
use Rattle.tree_defs.specs.Tree.{Tree}
use Rattle.policy_defs.specs.Policy.{Node}
use Rattle.policy_core.specs.Numbering.{HasAt}

-- the node of the policy with this number, below a count, has its image at an index
pub record IsImage (indices : List ℕ) (count i n : ℕ) : Type 0 where
  pub below : n < count
  pub image : slice_get indices n ≡ Some i

-- the name of one of the policy's first nodes whose image is at an index, if there is one
abbrev pub IsServed : Tree Node → List ℕ → ℕ → ℕ → Option (List ℕ) → Type 0
IsServed tree indices count i name = MatchOption name ((n : ℕ) → IsImage indices count i n → ⊥) (λ text. (n : ℕ) × IsImage indices count i n × HasAt tree n (λ node. text ≡ node.name))
