-- The position of a scheduler's queues in a target.
use Rattle.std.specs.Prelude.{◌≡◌, ℕ, List, Option, option_map}
use Rattle.tree_defs.specs.Tree.{Tree, Address}
use Rattle.policy_defs.specs.Policy.{Policy}

-- the image of each node of the source, the target's arities from the root down, and the target's
-- counts of pushes and pops when the scheduler was made
pub record Origin : Type 0 where
  pub images : Tree Address
  pub arities : List ℕ
  pub pushes : ℕ
  pub pops : ℕ

-- the images, if the queues are in a target
abbrev pub images_of : Option Origin → Option (Tree Address)
images_of o = option_map (λ at. at.images) o

-- the policy and the position of the queues are unchanged
pub record KeepsPolicy {C : Type 0} (policy_of : C → Policy) (origin_of : C → Option Origin) (old new : C) : Type 0 where
  pub policy : policy_of new ≡ policy_of old
  pub origin : origin_of new ≡ origin_of old
