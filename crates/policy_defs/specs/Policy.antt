-- An accepted policy: a tree of nodes and classes of packets. Each node has a transaction, and each
-- class a leaf. A node may have limits on the packets in it.
use Rattle.std.specs.Prelude.{ℕ, zero, suc, List, [], ◌∷◌, Option, Some, None, codes, slice_get}
use Rattle.std.specs.Option.{option_map_or}
use Rattle.tree_defs.specs.Tree.{Tree, leaf, inner, Trees, none, more, Address}
use Rattle.rank_defs.specs.declared.flow_group.FlowGroup.{FlowGroup}
use Rattle.rank_defs.specs.declared.flow_group.FlowGroup.TheVariants.{FiveTuple}
use Rattle.rank_defs.specs.Programs.{Program}
use Rattle.rank_defs.specs.Builtins.{fifo}
use Rattle.policy_defs.specs.declared.limits.Limits.{Limits}

-- the priority, the weight and the slack in nanoseconds of a node or a class
pub record Marks : Type 0 where
  pub prio : ℕ
  pub weight : ℕ
  pub slack : ℕ

-- the marks if none are written
abbrev pub no_marks : Marks
no_marks = record { prio = 0; weight = 1; slack = 0 }

abbrev pub no_limits : Limits
no_limits = record { packets = None; bytes = None; per_flow = None }

-- a limit on packets alone
abbrev pub at_most : Option ℕ → Limits
at_most limit = record { packets = limit; bytes = None; per_flow = None }

-- the properties of a node or leaf
pub record Node : Type 0 where
  pub name : List ℕ
  -- the transaction's name, as written
  pub using : List ℕ
  pub program : Program
  pub marks : Marks
  pub limits : Limits
  -- by what the limit for each flow, and the variables of a leaf for each flow, tell flows apart
  pub group : FlowGroup

-- a class of packets: its marks, and the address of the leaf that queues its packets
pub record Class : Type 0 where
  pub marks : Marks
  pub leaf : Address

pub record Policy : Type 0 where
  pub version : ℕ
  pub tree : Tree Node
  pub classes : List Class

-- the node or leaf at an address
abbrev mutual
  pub node_at : Tree Node → Address → Option Node
  node_at (leaf n) [] = Some n
  node_at (leaf n) (i ∷ a) = None
  node_at (inner n ts) [] = Some n
  node_at (inner n ts) (i ∷ a) = node_below ts i a

  pub node_below : Trees Node → ℕ → Address → Option Node
  node_below none i a = None
  node_below (more t ts) zero a = node_at t a
  node_below (more t ts) (suc i) a = node_below ts i a

-- the name of the node or leaf at an address
abbrev pub name_at : Policy → Address → List ℕ
name_at policy a = option_map_or (λ n. n.name) (node_at policy.tree a) []

-- the limits of the node or leaf at an address
abbrev pub limits_at : Policy → Address → Limits
limits_at policy a = option_map_or (λ n. n.limits) (node_at policy.tree a) no_limits

-- by what the node or leaf at an address tells flows apart
abbrev pub group_at : Policy → Address → FlowGroup
group_at policy a = option_map_or (λ n. n.group) (node_at policy.tree a) FiveTuple

-- the class with this number
abbrev pub class_at : Policy → ℕ → Option Class
class_at policy n = slice_get policy.classes n

-- one leaf, `root`, which serves all packets first in, first out
abbrev pub one_leaf : Policy
one_leaf = record {
  version = 1;
  tree = leaf (record { name = codes "root"; using = codes "fifo"; program = fifo; marks = no_marks; limits = no_limits; group = FiveTuple });
  classes = record { marks = no_marks; leaf = [] } ∷ [];
}
