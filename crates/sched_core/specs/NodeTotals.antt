-- How much is queued in a leaf or below a node.
use Rattle.std.specs.Prelude.{◌≡◌, ◌<◌, ◌^◌, ℕ, ◌+◌, ◌-◌, Bool, ◌||◌, if◌then◌else◌, Option, IsSome, unwrap_or}
use Rattle.std.specs.BTreeMap.{BTreeMap}
use Rattle.std.specs.Map.{lookup}
use Rattle.rank_defs.specs.declared.environment.FlowKey.{FlowKey}
use Rattle.rank_defs.specs.declared.flow_group.FlowGroup.{FlowGroup}
use Rattle.rank_defs.specs.FlowGroups.{grouped}
use Rattle.rank_defs.specs.States.{same_flow}
use Rattle.rank_core.specs.FlowKeys.{has_key}
use Rattle.rank_core.specs.declared.flows.OrderedKey.{OrderedKey}
use Rattle.packet_defs.specs.declared.packet.Packet.{Packet}
use Rattle.policy_defs.specs.declared.limits.Limits.{Limits}
use Rattle.sched_defs.specs.SourceState.{one_of, is_over}
use Rattle.sched_core.specs.declared.node_totals.NodeTotals.{NodeTotals}

-- a flow's entry in a map of flows
abbrev pub entry_of : BTreeMap OrderedKey ℕ → FlowKey → Option ℕ
entry_of m flow = lookup (has_key flow) m.entries

-- the packets that a map of flows counts for a flow
abbrev pub count_in : BTreeMap OrderedKey ℕ → FlowKey → ℕ
count_in m flow = unwrap_or (entry_of m flow) 0

-- 1 for the flow itself, and 0 for others
abbrev pub is_in_flow : FlowKey → FlowKey → ℕ
is_in_flow flow other = if same_flow flow other then 1 else 0

-- packets, their bytes, and the packets of each flow
pub record Amounts : Type 0 where
  pub packets : ℕ
  pub bytes : ℕ
  pub of_flow : FlowKey → ℕ

abbrev pub nothing : Amounts
nothing = record { packets = 0; bytes = 0; of_flow = λ _. 0 }

-- with one more packet
abbrev pub raised : FlowGroup → Packet → Amounts → Amounts
raised group p v = record { packets = v.packets + 1; bytes = v.bytes + p.len; of_flow = λ flow. v.of_flow flow + one_of group flow p }

-- without the packet
abbrev pub lowered : FlowGroup → Packet → Amounts → Amounts
lowered group p v = record { packets = v.packets - 1; bytes = v.bytes - p.len; of_flow = λ flow. v.of_flow flow - one_of group flow p }

-- with the packet, one of the limits would be passed
abbrev pub passes : Limits → FlowGroup → Amounts → Packet → Bool
passes limits group v p =
    is_over limits.packets (v.packets + 1) || (is_over limits.bytes (v.bytes + p.len) || is_over limits.per_flow (v.of_flow (grouped group p.flow) + 1))

-- few enough for one more not to overflow
pub record IsFew (v : Amounts) : Type 0 where
  pub packets : v.packets < 2 ^ 63
  pub bytes : v.bytes < 2 ^ 100
  pub of_flow : (flow : FlowKey) → v.of_flow flow < 2 ^ 63

-- these amounts are counted
pub record HasAmounts (x : NodeTotals) (v : Amounts) : Type 0 where
  pub packets : x.packets ≡ v.packets
  pub bytes : x.bytes ≡ v.bytes
  pub of_flow : IsSome x.limits.per_flow → (flow : FlowKey) → count_in x.flows flow ≡ v.of_flow flow

-- there is room for a packet: if flows are counted, its flow has an entry
abbrev pub HasRoom : NodeTotals → Packet → Type 0
HasRoom x p = IsSome x.limits.per_flow → IsSome (entry_of x.flows (grouped x.group p.flow))
