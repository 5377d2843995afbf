-- The names of a policy's nodes and leaves, by number.
use Rattle.std.specs.Prelude.{◌≡◌, ℕ, List, length, slice_get, IfSome}
use Rattle.std.specs.Borrow.{Bor}
use Rattle.tree_defs.specs.Tree.{nodes}
use Rattle.policy_defs.specs.Policy.{Policy}
use Rattle.policy_defs.specs.Numbers.{IsNameOf}

-- each of these is the name of the node or leaf with its index
abbrev pub AreNames : Policy → List (Bor (List ℕ)) → Type 0
AreNames policy names = (n : ℕ) → IfSome (slice_get names n) (λ name. IsNameOf policy n name.now)

-- the names of all nodes and leaves
pub record AreAllNames (policy : Policy) (names : List (Bor (List ℕ))) : Type 0 where
  pub all : length names ≡ nodes policy.tree
  pub each : AreNames policy names
