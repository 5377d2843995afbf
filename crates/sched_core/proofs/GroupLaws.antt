-- The fields by which nodes tell flows apart.
use Rattle.sched_core.proofs.Prelude.{◌≡◌, sym, ℕ, subst, Some, Option, None, option_map_or, IsSomeAnd, address_at, HasAt, Node, Policy, Packet, node_at, class_of, policy_of, Address}
use Rattle.rank_defs.specs.declared.environment.FlowKey.{FlowKey}
use Rattle.rank_defs.specs.declared.flow_group.FlowGroup.{FlowGroup}
use Rattle.rank_defs.specs.declared.flow_group.FlowGroup.TheVariants.{FiveTuple}
use Rattle.rank_defs.specs.FlowGroups.{grouped}
use Rattle.policy_defs.specs.Policy.{group_at}
use Rattle.sched_core.specs.declared.node_states.NodeStates.{NodeStates}
use Rattle.sched_core.specs.Agreement.{HasRoomFor, HasFlowRoom}

group-there : (o : Option Node) (g : FlowGroup) → IsSomeAnd o (λ n. g ≡ n.group) → g ≡ option_map_or (λ n. n.group) o FiveTuple
group-there (Some n) g is = is
group-there None g is = absurd is

-- the group that the node with a number has
pub numbered-group : (policy : Policy) (node : ℕ) (g : FlowGroup) → HasAt policy.tree node (λ n. g ≡ n.group) → g ≡ group_at policy (address_at policy.tree node)
numbered-group policy node g is = group-there (node_at policy.tree (address_at policy.tree node)) g is

-- room for the grouped flow is room for the packet
pub room-grouped : (s : NodeStates) (policy : Policy) (p : Packet) (a : Address) (key : FlowKey) → policy_of s ≡ policy → a ≡ (class_of policy p).leaf → key ≡ grouped (group_at policy (class_of policy p).leaf) p.flow → HasRoomFor s a key → HasFlowRoom s p
room-grouped s policy p a key same at is room =
    subst (λ (z : Policy). HasRoomFor s (class_of z p).leaf (grouped (group_at z (class_of z p).leaf) p.flow)) (sym same)
    (subst (λ (b : Address). HasRoomFor s b (grouped (group_at policy (class_of policy p).leaf) p.flow)) at
    (subst (λ (f : FlowKey). HasRoomFor s a f) is room))
