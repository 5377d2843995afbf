-- Packets in the order of a capture.
use Rattle.std.specs.Prelude.{◌≡◌, ◌<◌, ◌≤◌, ◌+◌, ℕ, Some, List, [], ◌∷◌}
use Rattle.std.specs.List.{AllByRecursion}
use Rattle.rank_defs.specs.Programs.{max_rank}
use Rattle.packet_defs.specs.declared.packet.Packet.{Packet}
use Rattle.policy_defs.specs.Policy.{Policy}
use Rattle.sched_defs.specs.SourceState.{Held, SourceState}
use Rattle.sched_defs.specs.Sound.{IsKnown}
use Rattle.sched_defs.specs.Script.{Step, Departures}

-- numbered consecutively from this number on
abbrev pub AreNumberedFrom : ℕ → List Packet → Type 0
AreNumberedFrom n [] = Unit {0}
AreNumberedFrom n (p ∷ packets) = (p.number ≡ n) × AreNumberedFrom (n + 1) packets

-- its class, its length and its timestamp (`moment`) are in range
pub record IsSendable (policy : Policy) (p : Packet) : Type 0 where
  pub known : IsKnown policy p
  pub moment : p.moment ≤ max_rank

-- every number under which a packet is queued is below this one
abbrev pub IsHeldBelow : ℕ → Held → Type 0
IsHeldBelow n held = (m : ℕ) (p : Packet) → held m ≡ Some p → m < n

-- packets numbered consecutively, each of which can be sent; none is queued under the first number
-- or a later one
pub record CanBeSent (policy : Policy) (first : ℕ) (packets : List Packet) (s : SourceState) : Type 0 where
  pub numbered : AreNumberedFrom first packets
  pub sendable : AllByRecursion (IsSendable policy) packets
  pub held : IsHeldBelow first s.held

-- how many departures a script asks for, without those of `drain`
abbrev pub departures_asked : List Step → ℕ
departures_asked [] = 0
departures_asked (Departures n ∷ steps) = n + departures_asked steps
departures_asked (step ∷ steps) = departures_asked steps
