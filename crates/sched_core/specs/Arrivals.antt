-- The result of an arrival.
use Rattle.std.specs.Prelude.{◌≡◌, ◌<◌, ◌≤◌, ◌^◌, ℕ, if◌then◌else◌, Result, Ok, Err, IfOk}
use Rattle.std.specs.declared.alloc.AllocError.{AllocError}
use Rattle.tree_defs.specs.Tree.{depth}
use Rattle.packet_defs.specs.declared.packet.Packet.{Packet}
use Rattle.policy_defs.specs.Policy.{Policy}
use Rattle.policy_defs.specs.Numbers.{number_at}
use Rattle.policy_defs.specs.Accepted.{IsAccepted}
use Rattle.sched_defs.specs.SourceState.{SourceState, class_of, is_full}
use Rattle.tree_core.specs.Paths.{Way}
use Rattle.sched_core.specs.Standing.{ForOne}
use Rattle.sched_core.specs.declared.scheduler.Arrival.{Arrival}
use Rattle.sched_core.specs.declared.scheduler.Arrival.TheVariants.{Pushed, Dropped}

-- the number of the leaf of a packet's class
abbrev pub leaf_number : Policy → Packet → ℕ
leaf_number policy p = number_at policy.tree (class_of policy p).leaf

-- a packet is dropped if its leaf is full, and pushed otherwise
abbrev pub arrival_of : Policy → Packet → SourceState → Arrival
arrival_of policy p s = if is_full policy p s then Dropped (leaf_number policy p) else Pushed (leaf_number policy p)

-- the number of pushes in a result
abbrev pub pushes_of : Result Arrival AllocError → ℕ
pushes_of (Ok (Pushed leaf)) = 1
pushes_of (Ok (Dropped leaf)) = 0
pushes_of (Err e) = 0

-- P holds if the packet was pushed; the next definition says the same of a dropped packet
abbrev pub WherePushed : Type 0 → Arrival → Type 0
WherePushed P (Pushed leaf) = P
WherePushed P (Dropped leaf) = Unit {0}

abbrev pub WhereDropped : Type 0 → Arrival → Type 0
WhereDropped P (Pushed leaf) = Unit {0}
WhereDropped P (Dropped leaf) = P

-- P holds if no packet was pushed: it was dropped, or memory ran out
abbrev pub WhereNotPushed : Type 0 → Result Arrival AllocError → Type 0
WhereNotPushed P (Ok a) = WhereDropped P a
WhereNotPushed P (Err e) = P

-- If the packet was pushed, the trace has the digits of its leaf. Otherwise the trace is unchanged, and
-- if it was dropped, so are the queues. The room of the trace is unchanged.
pub record LeavesPath {U : Type 0} (policy : Policy) (p : Packet) (result : Result Arrival AllocError) (queues queues' : U) (way way' : Way) : Type 0 where
  pub digits : IfOk result (WherePushed (way'.digits ≡ (class_of policy p).leaf))
  pub under : IfOk result (WhereDropped (queues' ≡ queues))
  pub trace : WhereNotPushed (way' ≡ way) result
  pub room : way'.room ≡ way.room

-- An event can be handled: the policy is accepted, a sound state with P is represented, the trace has
-- room for the path to each leaf, and few such events were counted.
pub record CanHandle {C U : Type 0} (represents : C → U → SourceState → Type 0) (policy_of : C → Policy) (c : C) (u : U) (P : Policy → SourceState → Type 0) (way : Way) (count : ℕ) : Type 0 where
  pub accepted : IsAccepted (policy_of c)
  pub stands : ForOne represents policy_of c u P
  pub room : depth (policy_of c).tree ≤ way.room
  pub few : count < 2 ^ 61

-- these are the counts of the packets that were pushed and of the departures that were asked for
pub record HasCounts {C : Type 0} (pushes_of departures_of : C → ℕ) (c : C) (pushed departed : ℕ) : Type 0 where
  pub pushes : pushes_of c ≡ pushed
  pub departures : departures_of c ≡ departed
