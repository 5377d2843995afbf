-- The conditions that each call of a generated load needs, and its events.
use Rattle.std.specs.Prelude.{◌≤◌, ◌<◌, ◌^◌, ℕ, Option, None, Some, length}
use Rattle.packet_defs.specs.declared.packet.Packet.{Packet}
use Rattle.policy_defs.specs.Policy.{Policy}
use Rattle.sched_defs.specs.Events.{Event, Arrive, Depart}
use Rattle.sched_run.specs.declared.drawing.Drawing.{Drawing}

-- the event of a drawn packet, or a departure if none was drawn
abbrev pub event_by : Option Packet → Event
event_by None = Depart None
event_by (Some p) = Arrive p

-- the most events that are drawn
abbrev pub most_load : ℕ
most_load = 1000000

-- the policy has a class for each class number that is drawn
abbrev pub HasLoadClasses : Policy → Type 0
HasLoadClasses policy = 8 ≤ length policy.classes

-- the policy has the classes that are drawn, and few enough events are
pub record CanLoad (policy : Policy) (count : ℕ) : Type 0 where
  pub classes : HasLoadClasses policy
  pub short : count ≤ most_load

-- the next event can be drawn, and made under the policy
pub record CanDraw (policy : Policy) (d : Drawing) : Type 0 where
  pub classes : HasLoadClasses policy
  pub early : d.moment < 2 ^ 61
  pub few : d.number < 2 ^ 61
