-- How much is queued at each node of a policy.
use Rattle.std.specs.Prelude.{◌≡◌, ◌<◌, ◌≤◌, ℕ, ◌+◌, nat_lt, Bool, ◌&&◌, if◌then◌else◌, List, length, Option, Some, None, IsSome, IfSome, Vec, slice_get, take}
use Rattle.std.specs.declared.alloc.Global.{Global}
use Rattle.tree_defs.specs.Tree.{Tree, Address, LeadsToLeaf, IsAddressOf, nodes}
use Rattle.rank_defs.specs.declared.flow_group.FlowGroup.{FlowGroup}
use Rattle.packet_defs.specs.declared.packet.Packet.{Packet}
use Rattle.policy_defs.specs.Policy.{Policy, Node, at_most, limits_at, group_at}
use Rattle.policy_defs.specs.Numbers.{number_at}
use Rattle.sched_defs.specs.SourceState.{SourceState, class_of, leads_over, total, one, bytes_of, one_of}
use Rattle.policy_core.specs.Numbering.{address_at}
use Rattle.sched_core.specs.NodeTotals.{Amounts, IsFew, HasAmounts, HasRoom, passes, raised, lowered}
use Rattle.sched_core.specs.declared.node_totals.NodeTotals.{NodeTotals}
use Rattle.sched_core.specs.declared.path_node.PathNode.{PathNode}

-- what is queued at each address
abbrev pub Values : Type 0
Values = Address → Amounts

-- these are the nodes from the root to the leaf at an address
pub record IsPath (tree : Tree Node) (leaf : Address) (path : List PathNode) : Type 0 where
  pub count : length path ≡ length leaf + 1
  pub each : (level : ℕ) (w : PathNode) → slice_get path level ≡ Some w → w.node ≡ number_at tree (take level leaf)

-- the numbers of a path's nodes are below n
abbrev pub AreInside : List PathNode → ℕ → Type 0
AreInside path n = (level : ℕ) (w : PathNode) → slice_get path level ≡ Some w → w.node < n

-- a path has each node once
abbrev pub AreApart : List PathNode → Type 0
AreApart path = (i j : ℕ) (v w : PathNode) → slice_get path i ≡ Some v → slice_get path j ≡ Some w → v.node ≡ w.node → i ≡ j

-- there is room for a packet at each node of a path, from a level on
abbrev pub HaveRoom : List PathNode → List NodeTotals → Packet → ℕ → Type 0
HaveRoom path totals p from = (level : ℕ) (w : PathNode) (x : NodeTotals) → from ≤ level → slice_get path level ≡ Some w → slice_get totals w.node ≡ Some x → HasRoom x p

-- these amounts are counted at the node at an address, which has these limits
pub record IsTotal (policy : Policy) (a : Address) (x : NodeTotals) (v : Amounts) : Type 0 where
  pub limits : x.limits ≡ limits_at policy a
  pub group : x.group ≡ group_at policy a
  pub amounts : HasAmounts x v

-- the same at each node, by its number
pub record AreTotals (policy : Policy) (totals : List NodeTotals) (values : Values) : Type 0 where
  pub count : length totals ≡ nodes policy.tree
  pub each : (a : Address) (x : NodeTotals) → IsAddressOf policy.tree a → slice_get totals (number_at policy.tree a) ≡ Some x → IsTotal policy a x (values a)

abbrev pub AreFew : Values → Type 0
AreFew values = (a : Address) → IsFew (values a)

-- P holds of the policy, the address of the path's leaf and the amounts, whichever they are
abbrev pub ForTotals : List PathNode → List NodeTotals → (Policy → Address → Values → Type 0) → Type 0
ForTotals path totals P =
    (policy : Policy) (leaf : Address) (values : Values) → LeadsToLeaf policy.tree leaf → IsPath policy.tree leaf path → AreTotals policy totals values → P policy leaf values

-- the amounts after a change at the nodes on the path to a leaf, above a level
abbrev pub changed_above : Policy → Address → (FlowGroup → Amounts → Amounts) → Values → ℕ → Values
changed_above policy leaf change values level a =
    if leads_over a leaf && nat_lt (length a) level then change (group_at policy a) (values a) else values a

-- the same at all nodes on the path
abbrev pub changed : Policy → Address → (FlowGroup → Amounts → Amounts) → Values → Values
changed policy leaf change values a = if leads_over a leaf then change (group_at policy a) (values a) else values a

-- with the packet, a limit at the address would be passed
abbrev pub passes_on : Policy → Values → Packet → Address → Bool
passes_on policy values p a = passes (limits_at policy a) (group_at policy a) (values a) p

-- ---- policies whose limits need no totals
-- the limit at an address is on packets alone, and the address is a leaf's
pub record IsLeafLimit (policy : Policy) (a : Address) : Type 0 where
  pub of_packets : limits_at policy a ≡ at_most (limits_at policy a).packets
  pub at_leaf : IsSome (limits_at policy a).packets → LeadsToLeaf policy.tree a

-- the same for the first n nodes
pub record HaveLeafLimits (policy : Policy) (n : ℕ) : Type 0 where
  pub each : (node : ℕ) → node < n → IsLeafLimit policy (address_at policy.tree node)

-- ---- the totals of a policy's nodes, if its limits need them
abbrev pub MayTotals : Type 0
MayTotals = Option (Vec NodeTotals Global)

-- they count these amounts, or only leaves have limits, on packets alone
abbrev pub AreKept : Policy → MayTotals → Values → Type 0
AreKept policy None values = HaveLeafLimits policy (nodes policy.tree)
AreKept policy (Some totals) values = AreTotals policy totals.items values

-- there is one for each node
abbrev pub AreSized : Policy → MayTotals → Type 0
AreSized policy totals = IfSome totals (λ v. length v.items ≡ nodes policy.tree)

-- there is room for a packet at each node on the path to a leaf
abbrev pub HaveRoomTo : Policy → Address → List NodeTotals → Packet → Type 0
HaveRoomTo policy leaf totals p =
    (level : ℕ) (x : NodeTotals) → level ≤ length leaf → slice_get totals (number_at policy.tree (take level leaf)) ≡ Some x → HasRoom x p

-- the same for the packet's own path
abbrev pub HasTotalsRoom : Policy → Packet → MayTotals → Type 0
HasTotalsRoom policy p totals = IfSome totals (λ v. HaveRoomTo policy (class_of policy p).leaf v.items p)

-- the amounts after a packet was added, and after one was taken out
abbrev pub with_one_more : Policy → Packet → Values → Values
with_one_more policy p = changed policy (class_of policy p).leaf (λ group. raised group p)

abbrev pub with_one_fewer : Policy → Packet → Values → Values
with_one_fewer policy p = changed policy (class_of policy p).leaf (λ group. lowered group p)

-- what is queued in a state
abbrev pub amounts_in : Policy → SourceState → Values
amounts_in policy s a =
    record { packets = total one s a; bytes = total bytes_of s a; of_flow = λ flow. total (one_of (group_at policy a) flow) s a }
