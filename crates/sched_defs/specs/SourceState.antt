-- The state of a policy's tree of queues, and how an arrival and a departure change it (SIGCOMM
-- 2016, OOPSLA 2023).
use Rattle.std.specs.Prelude.{◌≡◌, refl, ℕ, ◌+◌, max, ◌==◌, nat_le, Bool, true, false, not, ◌&&◌, ◌||◌, if◌then◌else◌, Option, None, Some, option_map, unwrap_or, List, [], ◌∷◌, map}
use Rattle.std.specs.List.{list_any}
use Rattle.std.specs.Option.{option_map_or}
use Rattle.tree_defs.specs.Tree.{Tree, Address, Popping, option_bind}
use Rattle.tree_defs.specs.Topology.{topology_of}
use Rattle.tree_defs.specs.SourceTree.{SourceTree, empty_tree, push, pop}
use Rattle.tree_defs.specs.Packets.{Placed, packets}
use Rattle.rank_defs.specs.declared.environment.FlowKey.{FlowKey}
use Rattle.rank_defs.specs.declared.flow_group.FlowGroup.{FlowGroup}
use Rattle.rank_defs.specs.FlowGroups.{grouped}
use Rattle.rank_defs.specs.States.{State, first_state, same_flow}
use Rattle.packet_defs.specs.declared.packet.Packet.{Packet}
use Rattle.policy_defs.specs.Policy.{Policy, Node, Class, no_marks, node_at, class_at, limits_at, group_at}
use Rattle.sched_defs.specs.Visits.{States, Visit, visits_from, ranks_pushed, after_pushes, after_pops}

-- the packet that is queued under a number, if there is one
abbrev pub Held : Type 0
Held = ℕ → Option Packet

-- with one more packet
abbrev pub with_packet : Held → Packet → Held
with_packet held p n = if n == p.number then Some p else held n

-- without the packet with a number
abbrev pub without : Held → ℕ → Held
without held m n = if n == m then None else held n

-- the queues, the state of each node, the queued packets, and the greatest timestamp of the packets
-- so far
pub record SourceState : Type 0 where
  pub tree : SourceTree
  pub nodes : States
  pub held : Held
  pub now : ℕ

abbrev pub no_state : State
no_state = record { keeps = []; eaches = λ _. [] }

-- all variables have their first values
abbrev pub first_states : Tree Node → States
first_states t a = option_map_or (λ n. first_state n.program) (node_at t a) no_state

-- all queues are empty, and no packet has arrived yet
abbrev pub start : Policy → SourceState
start policy = record {
  tree = empty_tree (topology_of policy.tree);
  nodes = first_states policy.tree;
  held = λ _. None;
  now = 0;
}

abbrev pub class_of : Policy → Packet → Class
class_of policy p = unwrap_or (class_at policy p.class) (record { marks = no_marks; leaf = [] })

-- the nodes that an arriving packet passes
abbrev pub way_in : Policy → Packet → ℕ → List Visit
way_in policy p moment = visits_from policy.tree [] (class_of policy p).leaf (class_of policy p) p moment

-- the ranks with which a packet arrives
abbrev pub arrival_ranks : Policy → Packet → SourceState → List ℕ
arrival_ranks policy p s = ranks_pushed s.nodes (way_in policy p (max s.now p.moment))

-- ---- limits
-- the node or leaf at an address is on the way to the one at the other address
abbrev pub leads_over : Address → Address → Bool
leads_over [] b = true
leads_over (i ∷ a) [] = false
leads_over (i ∷ a) (j ∷ b) = i == j && leads_over a b

-- the sum of a quantity over those of the packets that are in the leaf, or in a leaf below the node,
-- at an address
abbrev pub sum_over : (Packet → ℕ) → Held → Address → List Placed → ℕ
sum_over quantity held a [] = 0
sum_over quantity held a (at ∷ others) =
    (if leads_over a at.0 then option_map_or quantity (held at.1) 0 else 0) + sum_over quantity held a others

abbrev pub total : (Packet → ℕ) → SourceState → Address → ℕ
total quantity s a = sum_over quantity s.held a (packets s.tree)

-- the quantities that limits are about: packets, bytes, and packets of a flow
abbrev pub one : Packet → ℕ
one p = 1

abbrev pub bytes_of : Packet → ℕ
bytes_of p = p.len

abbrev pub one_of : FlowGroup → FlowKey → Packet → ℕ
one_of group flow p = if same_flow (grouped group p.flow) flow then 1 else 0

-- a quantity is greater than the limit, if there is one
abbrev pub is_over : Option ℕ → ℕ → Bool
is_over None n = false
is_over (Some limit) n = not (nat_le n limit)

-- with the packet, a limit at the address would be passed
abbrev pub passes_at : Policy → Packet → SourceState → Address → Bool
passes_at policy p s a =
    is_over (limits_at policy a).packets (total one s a + 1)
    || (is_over (limits_at policy a).bytes (total bytes_of s a + p.len)
    || is_over (limits_at policy a).per_flow (total (one_of (group_at policy a) (grouped (group_at policy a) p.flow)) s a + 1))

-- the addresses of the nodes on the way to a leaf, from the root's to the leaf's
abbrev pub way_to : Address → List Address
way_to [] = [] ∷ []
way_to (i ∷ a) = [] ∷ map (λ b. i ∷ b) (way_to a)

-- with the packet, a limit on its way to the leaf of its class would be passed
abbrev pub is_full : Policy → Packet → SourceState → Bool
is_full policy p s = list_any (passes_at policy p s) (way_to (class_of policy p).leaf)

-- after a packet was dropped: only the greatest timestamp may change
abbrev pub dropped : Packet → SourceState → SourceState
dropped p s = record { tree = s.tree; nodes = s.nodes; held = s.held; now = max s.now p.moment }

-- after a packet was pushed with the ranks that the push steps on its path gave
abbrev pub pushed : Policy → Packet → SourceState → SourceState
pushed policy p s = record {
  tree = push s.tree (class_of policy p).leaf (arrival_ranks policy p s) p.number;
  nodes = after_pushes (way_in policy p (max s.now p.moment)) s.nodes;
  held = with_packet s.held p;
  now = max s.now p.moment;
}

-- after a packet arrived: it is dropped if it would pass a limit (tail drop), and pushed otherwise
abbrev pub arrived : Policy → Packet → SourceState → SourceState
arrived policy p s = if is_full policy p s then dropped p s else pushed policy p s

-- the nodes that a departing packet passed
abbrev pub way_out : Policy → Packet → List ℕ → ℕ → List Visit
way_out policy p digits moment = visits_from policy.tree [] digits (class_of policy p) p moment

abbrev pub left_with : Policy → SourceState → Popping SourceTree → Option Packet → SourceState
left_with policy s taken None = s
left_with policy s taken (Some p) = record {
  tree = taken.left;
  nodes = after_pops (way_out policy p taken.digits s.now) taken.ranks s.nodes;
  held = without s.held taken.value;
  now = s.now;
}

abbrev pub left_from : Policy → SourceState → Option (Popping SourceTree) → SourceState
left_from policy s None = s
left_from policy s (Some taken) = left_with policy s taken (s.held taken.value)

-- After a departure: the tree was popped, and the pop steps on the path ran with the ranks taken.
-- If the tree is empty, nothing changes.
abbrev pub departed : Policy → SourceState → SourceState
departed policy s = left_from policy s (pop s.tree)

-- the packet that departs, with the children's indices and the ranks taken from the root down
pub record Leaver : Type 0 where
  pub packet : Packet
  pub digits : List ℕ
  pub ranks : List ℕ

abbrev pub leaving : Popping SourceTree → Packet → Leaver
leaving taken p = record { packet = p; digits = taken.digits; ranks = taken.ranks }

-- the packet that departs next, if there is one
abbrev pub leaver : SourceState → Option Leaver
leaver s = option_bind (pop s.tree) (λ taken. option_map (leaving taken) (s.held taken.value))

-- the root is on each way, and the leaf is the last on its own
a_way : way_to (1 ∷ 0 ∷ []) ≡ [] ∷ (1 ∷ []) ∷ (1 ∷ 0 ∷ []) ∷ []
a_way = refl

ways_over : map (leads_over (1 ∷ [])) ([] ∷ (0 ∷ []) ∷ (1 ∷ []) ∷ (1 ∷ 0 ∷ []) ∷ []) ≡ false ∷ false ∷ true ∷ true ∷ []
ways_over = refl
