-- The variables of a node, and the children or flows for which it has room.
use Rattle.std.specs.Prelude.{◌<◌, ℕ, List, length, [], slice_get, Option, Some, None, IsSome, option_map}
use Rattle.rank_defs.specs.declared.environment.Env.{Env}
use Rattle.rank_defs.specs.declared.environment.Who.{Who}
use Rattle.rank_defs.specs.declared.environment.Who.TheVariants.{Child, Flow}
use Rattle.rank_defs.specs.declared.transaction.Assign.{Assign}
use Rattle.rank_defs.specs.declared.transaction.Transaction.{Transaction}
use Rattle.rank_defs.specs.States.{State, SameState, Memory, memory_for}
use Rattle.rank_core.specs.Scope.{run_of}
use Rattle.rank_core.specs.Flows.{items_of, numbers_of}
use Rattle.rank_core.specs.declared.node.Eaches.{Eaches}
use Rattle.rank_core.specs.declared.node.Eaches.TheVariants.{Children, Flows, Bare}
use Rattle.rank_core.specs.declared.node.NodeState.{NodeState}

-- the values kept for a child or a flow; a bare leaf has an empty list for every flow
abbrev pub kept : Eaches → Who → Option (List ℕ)
kept (Children values) (Child i) = option_map items_of (slice_get values.items i)
kept (Flows table) (Flow f) = numbers_of table f
kept Bare (Flow f) = Some []
kept values who = None

-- the number of children of an inner node; nothing for a leaf
abbrev pub children : Eaches → Option ℕ
children (Children values) = Some (length values.items)
children (Flows values) = None
children Bare = None

-- the number of children of a node, like `children`
abbrev pub children_of : NodeState → Option ℕ
children_of n = children n.eaches

-- a child of an inner node with this number of children, or a flow at a leaf
abbrev pub BelongsTo : Option ℕ → Who → Type 0
BelongsTo (Some n) (Child i) = i < n
BelongsTo None (Flow f) = Unit {0}
BelongsTo n who = ⊥

-- a node has room for a child or flow if it keeps values for it
abbrev pub HasRoom : NodeState → Who → Type 0
HasRoom n who = IsSome (kept n.eaches who)

-- the values kept, or else the first ones
abbrev pub kept_or : List ℕ → Option (List ℕ) → List ℕ
kept_or first None = first
kept_or first (Some values) = values

-- the state of a node; a child or flow without room has its first values
abbrev pub state_of : NodeState → State
state_of n = record { keeps = n.keeps.items; eaches = λ who. kept_or n.firsts.items (kept n.eaches who) }

-- the variables of a node agree with the state
abbrev pub HasState : NodeState → State → Type 0
HasState n s = SameState (state_of n) s

-- the memory at the end of a step with these assignments
abbrev pub step_of : Transaction → List Assign → Who → Env → ℕ → NodeState → Memory
step_of t assigns who env r n = run_of t env assigns (memory_for who r (state_of n))
