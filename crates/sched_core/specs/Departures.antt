-- The result of a departure.
use Rattle.std.specs.Prelude.{◌≡◌, ◌↔◌, Option, option_map, IsNone, IfSome, IfNone}
use Rattle.tree_defs.specs.SourceTree.{size}
use Rattle.packet_defs.specs.declared.packet.Departed.{Departed}
use Rattle.policy_defs.specs.Policy.{Policy}
use Rattle.policy_defs.specs.Numbers.{number_at}
use Rattle.sched_defs.specs.SourceState.{SourceState, Leaver, leaver}
use Rattle.tree_core.specs.Paths.{Way}

-- a departed packet's number, its class, the leaf from which it departed, and its length
abbrev pub departed_packet : Policy → Leaver → Departed
departed_packet policy l = record { packet = l.packet.number; class = l.packet.class; leaf = number_at policy.tree l.digits; len = l.packet.len }

-- the result of the next departure, if a packet is queued
abbrev pub next_departed : Policy → SourceState → Option Departed
next_departed policy s = option_map (departed_packet policy) (leaver s)

-- the digits and ranks taken are those with which the packet departed
pub record IsTaken (l : Leaver) (way : Way) : Type 0 where
  pub digits : way.digits ≡ l.digits
  pub ranks : way.ranks ≡ l.ranks

-- The result is that of the next departure: it is none only if no packet is queued. If one is, the trace
-- has the digits and ranks with which it departed.
pub record IsDeparture (policy : Policy) (s : SourceState) (result : Option Departed) (way : Way) : Type 0 where
  pub value : result ≡ next_departed policy s
  pub none : IsNone result ↔ (size s.tree ≡ 0)
  pub taken : IfSome (leaver s) (λ l. IsTaken l way)

-- the trace is unchanged if no packet departed, and its room is unchanged
pub record KeepsTrace (result : Option Departed) (old new : Way) : Type 0 where
  pub stays : IfNone result (new ≡ old)
  pub room : new.room ≡ old.room
