-- What a step of a node asks, and what it keeps.
use Rattle.std.specs.Prelude.{◌≡◌, ◌↔◌}
use Rattle.rank_defs.specs.declared.environment.Env.{Env}
use Rattle.rank_defs.specs.declared.environment.Who.{Who}
use Rattle.rank_defs.specs.declared.transaction.Transaction.{Transaction}
use Rattle.rank_defs.specs.Checks.{IsChecked}
use Rattle.rank_defs.specs.Programs.{program_of}
use Rattle.rank_defs.specs.Shapes.{IsEnvInRange, IsShaped, IsStateInRange}
use Rattle.rank_core.specs.Node.{state_of, children_of, HasRoom}
use Rattle.rank_core.specs.declared.node.NodeState.{NodeState}

-- the transaction is shaped and checked, the variables and the environment are in range, and the
-- node has room for the child or flow
pub record CanRunAt (t : Transaction) (who : Who) (env : Env) (n : NodeState) : Type 0 where
  pub shaped : IsShaped (program_of t)
  pub checked : IsChecked (program_of t)
  pub in_range : IsStateInRange (program_of t) (state_of n)
  pub room : HasRoom n who
  pub told : IsEnvInRange env

-- the variables stay in range, and the node keeps its children and its room
pub record KeepsNode (t : Transaction) (old new : NodeState) : Type 0 where
  pub in_range : IsStateInRange (program_of t) (state_of new)
  pub room : (w : Who) → HasRoom new w ↔ HasRoom old w
  pub children : children_of new ≡ children_of old
