-- The part of a source state that a scheduler keeps itself: all but its queues.
use Rattle.std.specs.Prelude.{◌≡◌, ◌≤◌, ℕ, List, Some, slice_get}
use Rattle.tree_defs.specs.Tree.{Address, LeadsToLeaf}
use Rattle.tree_defs.specs.SourceTree.{SourceTree, pop, size}
use Rattle.policy_defs.specs.Policy.{Policy}
use Rattle.policy_defs.specs.Numbers.{number_at}
use Rattle.packet_defs.specs.declared.packet.Packet.{Packet}
use Rattle.sched_defs.specs.SourceState.{SourceState, total, one, class_of, arrival_ranks}
use Rattle.tree_core.specs.Paths.{Way}
use Rattle.sched_core.specs.Arrivals.{CanHandle, HasCounts}
use Rattle.sched_core.specs.Agreement.{policy_of, AreStates}
use Rattle.sched_core.specs.declared.policy_state.PolicyState.{PolicyState}
use Rattle.sched_core.specs.Held.{held_at}
use Rattle.sched_core.specs.Totals.{AreKept, amounts_in}
use Rattle.sched_core.specs.Standing.{StandForOne, ForEachState}

abbrev pub policy_in : PolicyState → Policy
policy_in own = policy_of own.node_states

-- at the number of each leaf, how many packets are in it
abbrev pub AreFilled : Policy → List ℕ → SourceState → Type 0
AreFilled policy counts s = (a : Address) → LeadsToLeaf policy.tree a → slice_get counts (number_at policy.tree a) ≡ Some (total one s a)

-- The variables, the queued packets, how many of them are at each leaf, how much is at each node if
-- limits need it, and the latest timestamp (`moment`) are those of the state. No more packets are
-- queued than were pushed.
pub record IsOwn (own : PolicyState) (s : SourceState) : Type 0 where
  pub nodes : AreStates own.node_states s.nodes
  pub held : (n : ℕ) → held_at own.held n ≡ s.held n
  pub filled : AreFilled (policy_in own) own.filled.items s
  pub totals : AreKept (policy_in own) own.totals (amounts_in (policy_in own) s)
  pub few : size s.tree ≤ own.pushes
  pub now : s.now ≡ own.moment

-- the same, whichever component owns the queues
abbrev pub owns : PolicyState → Unit {0} → SourceState → Type 0
owns own queues s = IsOwn own s

-- it is that of a sound state with P
abbrev pub IsOfOne : PolicyState → (SourceState → Type 0) → Type 0
IsOfOne own P = StandForOne owns (policy_in own) own tt P

-- P holds of each sound state that it belongs to
abbrev pub IsOfEach : PolicyState → (SourceState → Type 0) → Type 0
IsOfEach own P = ForEachState owns (policy_in own) own tt P

-- this is popped next
pub record PopsNext (s : SourceState) (number : ℕ) (digits ranks : List ℕ) : Type 0 where
  pub left : SourceTree
  pub popped : pop s.tree ≡ Some (record { value = number; digits = digits; ranks = ranks; left = left })

-- P holds of each sound state that it belongs to and from which this is popped next
abbrev pub IsOfEachPopping : PolicyState → ℕ → List ℕ → List ℕ → (SourceState → Type 0) → Type 0
IsOfEachPopping own number digits ranks P = IsOfEach own (λ s. PopsNext s number digits ranks → P s)

-- a trace has the digits of a packet's leaf and the ranks of its push steps
pub record HasPushed (own : PolicyState) (p : Packet) (way : Way) : Type 0 where
  pub digits : way.digits ≡ (class_of (policy_in own) p).leaf
  pub ranks : IsOfEach own (λ s. way.ranks ≡ arrival_ranks (policy_in own) p s)

-- nothing was pushed: the state is that of the same source states, and the trace is unchanged
pub record HasNotPushed (old new : PolicyState) (way way' : Way) : Type 0 where
  pub state : IsOfEach old (λ s. IsOwn new s)
  pub trace : way' ≡ way

-- an event can be handled, if its packet or source state has P
abbrev pub CanHandleOwn : PolicyState → (SourceState → Type 0) → Way → ℕ → Type 0
CanHandleOwn own P way count = CanHandle owns policy_in own tt (λ _. P) way count

-- these are the counts of pushes and departures
abbrev pub CountsAre : PolicyState → ℕ → ℕ → Type 0
CountsAre own pushed departed = HasCounts (λ c. c.pushes) (λ c. c.departures) own pushed departed
