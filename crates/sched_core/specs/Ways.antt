-- The path of a packet from the root down to the leaf of its class. The root's level is 0.
use Rattle.std.specs.Prelude.{◌≡◌, ◌≤◌, ℕ, List, [], ◌∷◌, length, take, drop}
use Rattle.std.specs.List.{AllByRecursion}
use Rattle.tree_defs.specs.Tree.{Tree, Address, LeadsToLeaf, root_of}
use Rattle.rank_defs.specs.declared.environment.Who.{Who}
use Rattle.rank_defs.specs.declared.environment.Who.TheVariants.{Child, Flow}
use Rattle.rank_defs.specs.declared.flow_group.FlowGroup.{FlowGroup}
use Rattle.rank_defs.specs.FlowGroups.{grouped}
use Rattle.rank_defs.specs.Programs.{max_rank}
use Rattle.rank_defs.specs.Shapes.{max_len}
use Rattle.rank_core.specs.declared.node.NodeState.{NodeState}
use Rattle.packet_defs.specs.declared.packet.Packet.{Packet}
use Rattle.policy_defs.specs.Policy.{Node, Class, group_at}
use Rattle.policy_defs.specs.Accepted.{IsAccepted, AreMarksInRange}
use Rattle.sched_defs.specs.SourceState.{class_of}
use Rattle.sched_defs.specs.Visits.{States, Visit, visit, env_for, visits_from}
use Rattle.sched_core.specs.declared.node_states.PacketPath.{PacketPath}
use Rattle.sched_core.specs.Kept.{part_at, HasRoomAt, HaveValues, AreNodeStates}
use Rattle.sched_core.specs.PathNodes.{marks_on, ArePathNodes}

abbrev pub tree_for : PacketPath → Tree Node
tree_for e = e.policy.now.policy.tree

abbrev pub class_for : PacketPath → Class
class_for e = class_of e.policy.now.policy e.packet.now

-- the address of the node at a level of the path
abbrev pub place : PacketPath → ℕ → Address
place e level = take level (class_for e).leaf

-- the digits that the path follows from there
abbrev pub ahead : PacketPath → ℕ → List ℕ
ahead e level = drop level (class_for e).leaf

-- the part of the tree from that node down
abbrev pub part : PacketPath → ℕ → Tree Node
part e level = part_at (tree_for e) (place e level)

-- the policy is accepted, the nodes on the path are those of the class, and the inputs of steps are
-- in range
pub record IsReady (e : PacketPath) : Type 0 where
  pub accepted : IsAccepted e.policy.now.policy
  pub leads : LeadsToLeaf (tree_for e) (class_for e).leaf
  pub path_nodes : ArePathNodes (tree_for e) (class_for e) e.path_nodes.now
  pub marks : AreMarksInRange (class_for e).marks
  pub len : e.packet.now.len ≤ max_len
  pub moment : e.moment ≤ max_rank

-- the child or flow whose variables the step of a node with this group uses, if the path follows
-- these digits
abbrev pub who_on : FlowGroup → List ℕ → Packet → Who
who_on group [] p = Flow (grouped group p.flow)
who_on group (i ∷ digits) p = Child i

-- the visit to the node at a level
abbrev pub stop : PacketPath → ℕ → Visit
stop e level =
    visit (place e level) (root_of (part e level)).program (who_on (root_of (part e level)).group (ahead e level) e.packet.now) (env_for e.packet.now e.moment (marks_on (part e level) (ahead e level) (class_for e)))

-- the visits from there down
abbrev pub way : PacketPath → ℕ → List Visit
way e level = visits_from (part e level) (place e level) (ahead e level) (class_for e) e.packet.now e.moment

-- the leaf has room for the packet's flow, grouped as the leaf says
abbrev pub HasRoomAtLeaf : PacketPath → List NodeState → Type 0
HasRoomAtLeaf e states =
    HasRoomAt (tree_for e) states (class_for e).leaf (Flow (grouped (group_at e.policy.now.policy (class_for e).leaf) e.packet.now.flow))

-- a step at a level: the packet is ready for it, the digits are those of the class, the level is on
-- the path, and the nodes have their states, with room at the leaf
pub record IsAtLevel (e : PacketPath) (digits : List ℕ) (level : ℕ) (states : List NodeState) : Type 0 where
  pub ready : IsReady e
  pub digits_are : digits ≡ (class_for e).leaf
  pub low : level ≤ length digits
  pub kept : AreNodeStates (tree_for e) states
  pub room : HasRoomAtLeaf e states

-- each is at most the greatest rank
abbrev pub AreLowRanks : List ℕ → Type 0
AreLowRanks ranks = AllByRecursion (λ r. r ≤ max_rank) ranks

-- P holds of all values that the variables may have
abbrev pub ForValues : PacketPath → List NodeState → (States → Type 0) → Type 0
ForValues e states P = (values : States) → HaveValues (tree_for e) states values → P values

-- whatever values the variables had, they have the values that f gives now
abbrev pub ValuesBecome : PacketPath → List NodeState → List NodeState → (States → States) → Type 0
ValuesBecome e old new f = ForValues e old (λ values. HaveValues (tree_for e) new (f values))

-- any room there was is still there
abbrev pub KeepsRoom : PacketPath → List NodeState → List NodeState → Type 0
KeepsRoom e old new = (a : Address) (who : Who) → HasRoomAt (tree_for e) old a who → HasRoomAt (tree_for e) new a who
