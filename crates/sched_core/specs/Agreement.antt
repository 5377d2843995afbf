-- The values of the variables of a policy's nodes, and the flows for which the nodes have room.
use Rattle.std.specs.Prelude.{◌≡◌}
use Rattle.tree_defs.specs.Tree.{Address}
use Rattle.tree_core.specs.Paths.{Way}
use Rattle.rank_defs.specs.declared.environment.FlowKey.{FlowKey}
use Rattle.rank_defs.specs.declared.environment.Who.TheVariants.{Flow}
use Rattle.rank_defs.specs.FlowGroups.{grouped}
use Rattle.packet_defs.specs.declared.packet.Packet.{Packet}
use Rattle.policy_defs.specs.Policy.{Policy, group_at}
use Rattle.policy_defs.specs.Accepted.{IsAccepted}
use Rattle.sched_defs.specs.Visits.{States}
use Rattle.sched_defs.specs.SourceState.{class_of}
use Rattle.sched_defs.specs.Sound.{IsKnown}
use Rattle.sched_core.specs.declared.node_states.NodeStates.{NodeStates}
use Rattle.sched_core.specs.Kept.{HaveValues, HasRoomAt}
use Rattle.sched_core.specs.Ways.{AreLowRanks}

abbrev pub policy_of : NodeStates → Policy
policy_of s = s.policy.now.policy

-- the variables of each node have these values
abbrev pub AreStates : NodeStates → States → Type 0
AreStates s values = HaveValues (policy_of s).tree s.states.items values

-- the leaf at an address has room for a flow
abbrev pub HasRoomFor : NodeStates → Address → FlowKey → Type 0
HasRoomFor s a flow = HasRoomAt (policy_of s).tree s.states.items a (Flow flow)

-- the leaf of a packet's class has room for the packet's flow, grouped as the leaf says
abbrev pub HasFlowRoom : NodeStates → Packet → Type 0
HasFlowRoom s p = HasRoomFor s (class_of (policy_of s) p).leaf (grouped (group_at (policy_of s) (class_of (policy_of s) p).leaf) p.flow)

-- P holds of all values that the variables may have
abbrev pub ForStates : NodeStates → (States → Type 0) → Type 0
ForStates s P = (values : States) → AreStates s values → P values

-- whatever values the variables had, they have the values that f gives now
abbrev pub StatesBecome : NodeStates → NodeStates → (States → States) → Type 0
StatesBecome old new f = ForStates old (λ values. AreStates new (f values))

-- the steps of a packet can run: its class is known, the policy is accepted, and there is room for
-- its flow
pub record CanStep (s : NodeStates) (p : Packet) : Type 0 where
  pub known : IsKnown (policy_of s) p
  pub accepted : IsAccepted (policy_of s)
  pub room : HasFlowRoom s p

-- the policy is the same, and any room there was for a flow is still there
pub record KeepsRooms (old new : NodeStates) : Type 0 where
  pub policy : policy_of new ≡ policy_of old
  pub rooms : (p : Packet) → HasFlowRoom old p → HasFlowRoom new p

-- a trace has the digits of a packet's leaf and ranks in range, and its room is unchanged
pub record HasSteps (s : NodeStates) (p : Packet) (old new : Way) : Type 0 where
  pub digits : new.digits ≡ (class_of (policy_of s) p).leaf
  pub low : AreLowRanks new.ranks
  pub room : new.room ≡ old.room
