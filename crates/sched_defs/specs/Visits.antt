-- The nodes that a packet passes on its path from the root to its leaf, and the steps made there.
use Rattle.std.specs.Prelude.{ℕ, zero, suc, List, [], ◌∷◌, ◌++◌, map, drop, slice_index, if◌then◌else◌}
use Rattle.std.specs.Str.{bytes_eq}
use Rattle.tree_defs.specs.Tree.{Tree, leaf, inner, Trees, none, more, Address, root_of}
use Rattle.rank_defs.specs.declared.environment.Env.{Env}
use Rattle.rank_defs.specs.declared.environment.Who.{Who}
use Rattle.rank_defs.specs.declared.environment.Who.TheVariants.{Child, Flow}
use Rattle.rank_defs.specs.FlowGroups.{grouped}
use Rattle.rank_defs.specs.Programs.{Program}
use Rattle.rank_defs.specs.States.{State}
use Rattle.rank_defs.specs.Steps.{push_rank, after_push, after_pop}
use Rattle.packet_defs.specs.declared.packet.Packet.{Packet}
use Rattle.policy_defs.specs.Policy.{Marks, no_marks, Node, Class}

-- a node on the path: its address, its program, the child or flow whose variables its step uses
-- (`who`), and the step's inputs (`env`)
pub record Visit : Type 0 where
  pub address : Address
  pub program : Program
  pub who : Who
  pub env : Env

abbrev pub visit : Address → Program → Who → Env → Visit
visit a p w e = record { address = a; program = p; who = w; env = e }

abbrev pub env_for : Packet → ℕ → Marks → Env
env_for p moment m = record { len = p.len; now = moment; prio = m.prio; weight = m.weight; slack = m.slack }

-- the marks of a child
abbrev pub child_marks : Trees Node → ℕ → Marks
child_marks none i = no_marks
child_marks (more t ts) zero = (root_of t).marks
child_marks (more t ts) (suc i) = child_marks ts i

-- The nodes from the one at an address down, along digits that end at a leaf. An inner node's step
-- gets the child on the path and the child's marks. The leaf's step gets the packet's flow, grouped
-- as the leaf says, and the marks of its class.
abbrev mutual
  pub visits_from : Tree Node → Address → List ℕ → Class → Packet → ℕ → List Visit
  visits_from (leaf n) a digits c p moment = visit a n.program (Flow (grouped n.group p.flow)) (env_for p moment c.marks) ∷ []
  visits_from (inner n ts) a [] c p moment = []
  visits_from (inner n ts) a (i ∷ digits) c p moment =
      visit a n.program (Child i) (env_for p moment (child_marks ts i)) ∷ visits_below ts i (a ++ i ∷ []) digits c p moment

  pub visits_below : Trees Node → ℕ → Address → List ℕ → Class → Packet → ℕ → List Visit
  visits_below none i a digits c p moment = []
  visits_below (more t ts) zero a digits c p moment = visits_from t a digits c p moment
  visits_below (more t ts) (suc i) a digits c p moment = visits_below ts i a digits c p moment

-- the state of each node, by its address
abbrev pub States : Type 0
States = Address → State

-- with the state at one address replaced
abbrev pub with_state : States → Address → State → States
with_state nodes a s b = if bytes_eq a b then s else nodes b

-- the rank that a node's push step gives
abbrev pub rank_at : States → Visit → ℕ
rank_at nodes v = push_rank v.program v.who v.env (nodes v.address)

-- the ranks from the root to the leaf
abbrev pub ranks_pushed : States → List Visit → List ℕ
ranks_pushed nodes visits = map (rank_at nodes) visits

-- the states after the push steps on the path
abbrev pub after_pushes : List Visit → States → States
after_pushes [] nodes = nodes
after_pushes (v ∷ visits) nodes =
    after_pushes visits (with_state nodes v.address (after_push v.program v.who v.env (nodes v.address)))

-- the states after the pop steps on the path, each with the rank taken there
abbrev pub after_pops : List Visit → List ℕ → States → States
after_pops [] ranks nodes = nodes
after_pops (v ∷ visits) ranks nodes =
    after_pops visits (drop 1 ranks) (with_state nodes v.address (after_pop v.program v.who v.env (slice_index ranks 0) (nodes v.address)))
