-- The states that events lead to.
use Rattle.std.specs.Prelude.{◌≡◌, ◌≤◌, ◌<◌, ℕ, nat_eq, Some, IfSome, length}
use Rattle.std.specs.List.{AllByRecursion, IsDistinct, Contains}
use Rattle.tree_defs.specs.Queue.{Queue}
use Rattle.tree_defs.specs.Tree.{Tree, leaf, inner, Trees, none, more, Address, SameShape}
use Rattle.tree_defs.specs.SourceTree.{IsWellFormed}
use Rattle.tree_defs.specs.Packets.{Placed, values, packets}
use Rattle.rank_defs.specs.declared.environment.FlowKey.{FlowKey}
use Rattle.rank_defs.specs.Programs.{max_rank}
use Rattle.rank_defs.specs.Shapes.{IsStateInRange, max_len}
use Rattle.packet_defs.specs.declared.packet.Packet.{Packet}
use Rattle.policy_defs.specs.Policy.{Policy, Node, node_at, limits_at, group_at}
use Rattle.sched_defs.specs.SourceState.{SourceState, class_of, total, one, bytes_of, one_of}

-- each rank is at most the greatest rank
abbrev pub HasRanks : Queue → Type 0
HasRanks q = AllByRecursion (λ e. e.0 ≤ max_rank) q

abbrev mutual
  pub HasLowRanks : Tree Queue → Type 0
  HasLowRanks (leaf q) = HasRanks q
  HasLowRanks (inner q ts) = HasRanks q × HaveLowRanks ts

  pub HaveLowRanks : Trees Queue → Type 0
  HaveLowRanks none = Unit {0}
  HaveLowRanks (more t ts) = HasLowRanks t × HaveLowRanks ts

-- a queued packet: its class is one of the policy's, and a capture can give its length
pub record IsKnown (policy : Policy) (p : Packet) : Type 0 where
  pub class : p.class < length policy.classes
  pub len : p.len ≤ max_len

-- the number is at the leaf of the class of the packet that is queued under it
pub record IsAtItsLeaf (policy : Policy) (s : SourceState) (at : Placed) : Type 0 where
  pub packet : Packet
  pub held : s.held at.1 ≡ Some packet
  pub leaf_is : (class_of policy packet).leaf ≡ at.0

-- what is queued in the leaf or below the node at an address is within the limits there
pub record IsWithinLimits (policy : Policy) (s : SourceState) (a : Address) : Type 0 where
  pub packets : IfSome (limits_at policy a).packets (λ limit. total one s a ≤ limit)
  pub bytes : IfSome (limits_at policy a).bytes (λ limit. total bytes_of s a ≤ limit)
  pub per_flow : IfSome (limits_at policy a).per_flow (λ limit. (flow : FlowKey) → total (one_of (group_at policy a) flow) s a ≤ limit)

-- The queues have the policy's topology and are well formed. The packets in the leaves are the
-- queued ones, each once and at the leaf of its class. No limit is passed. Each rank, each variable
-- and `now` is in range.
pub record IsSound (policy : Policy) (s : SourceState) : Type 0 where
  pub well_formed : IsWellFormed s.tree
  pub shape : SameShape s.tree policy.tree
  pub distinct : IsDistinct nat_eq (values s.tree)
  pub placed : AllByRecursion (IsAtItsLeaf policy s) (packets s.tree)
  pub limits : (a : Address) → IsWithinLimits policy s a
  pub stands : (n : ℕ) (p : Packet) → s.held n ≡ Some p → Contains (values s.tree) n
  pub known : (n : ℕ) (p : Packet) → s.held n ≡ Some p → IsKnown policy p
  pub numbered : (n : ℕ) (p : Packet) → s.held n ≡ Some p → p.number ≡ n
  pub states : (a : Address) (n : Node) → node_at policy.tree a ≡ Some n → IsStateInRange n.program (s.nodes a)
  pub ranks : HasLowRanks s.tree
  pub now : s.now ≤ max_rank
