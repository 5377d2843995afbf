-- The events that the outcomes of a run mean for the packets of a group, and their sums.
use Rattle.std.specs.Prelude.{ℕ, ◌+◌, ◌-◌, ◌==◌, Bool, true, false, if◌then◌else◌, Option, None, Some, option_map, Vec, List, [], ◌∷◌, ◌++◌, slice_get}
use Rattle.std.specs.declared.alloc.Global.{Global}
use Rattle.std.specs.Option.{option_map_or}
use Rattle.sched_defs.specs.SendTime.{send_time}
use Rattle.sched_defs.specs.Events as run
use Rattle.sched_defs.specs.declared.rate.LinkRate.{LinkRate}
use Rattle.summary_core.specs.declared.event.Times.{Times}
use Rattle.summary_core.specs.declared.event.PacketEvent.{PacketEvent}
use Rattle.summary_core.specs.declared.event.PacketEvent.TheVariants.{Arrived, Departed, Dropped}
use Rattle.summary_core.specs.declared.counts.Counts.{Counts}
use Rattle.summary_core.specs.Counting.{with_event}

-- the list at an index, if there is one
abbrev pub items_at : List (Vec ℕ Global) → ℕ → Option (List ℕ)
items_at lists i = option_map (λ v. v.items) (slice_get lists i)

-- an event of a packet of a class
pub record ClassEvent : Type 0 where
  pub class : ℕ
  pub event : PacketEvent

abbrev pub of_class : ℕ → PacketEvent → ClassEvent
of_class class event = record { class = class; event = event }

-- the delay and the finish of a packet of this length, if its start and its timestamp are known
abbrev pub times_of : LinkRate → ℕ → Option ℕ → Option ℕ → Option Times
times_of rate len None timestamp = None
times_of rate len (Some start) None = None
times_of rate len (Some start) (Some timestamp) = Some (record { delay = start - timestamp; finish = start + send_time len rate })

-- ---- by each packet's own timestamp
abbrev pub class_event : LinkRate → run.Outcome → List ClassEvent
class_event rate (run.Arrived p a ranks) = of_class p.class (Arrived p.len p.moment) ∷ []
class_event rate (run.Departed p a ranks start) = of_class p.class (Departed p.len (times_of rate p.len start (Some p.moment))) ∷ []
class_event rate (run.Dropped p a) = of_class p.class Dropped ∷ []
class_event rate run.Empty = []

abbrev pub class_events : LinkRate → List run.Outcome → List ClassEvent
class_events rate [] = []
class_events rate (o ∷ os) = class_event rate o ++ class_events rate os

-- ---- by the timestamps stored while packets are queued
abbrev pub Timestamps : Type 0
Timestamps = ℕ → Option ℕ

abbrev pub no_timestamps : Timestamps
no_timestamps n = None

abbrev pub stamps_after : Timestamps → run.Outcome → Timestamps
stamps_after kept (run.Arrived p a ranks) n = if n == p.number then Some p.moment else kept n
stamps_after kept (run.Departed p a ranks start) n = if n == p.number then None else kept n
stamps_after kept (run.Dropped p a) n = kept n
stamps_after kept run.Empty n = kept n

abbrev pub stamps_behind : Timestamps → List run.Outcome → Timestamps
stamps_behind kept [] = kept
stamps_behind kept (o ∷ os) = stamps_behind (stamps_after kept o) os

abbrev pub event_by : LinkRate → Timestamps → run.Outcome → List ClassEvent
event_by rate kept (run.Arrived p a ranks) = of_class p.class (Arrived p.len p.moment) ∷ []
event_by rate kept (run.Departed p a ranks start) = of_class p.class (Departed p.len (times_of rate p.len start (kept p.number))) ∷ []
event_by rate kept (run.Dropped p a) = of_class p.class Dropped ∷ []
event_by rate kept run.Empty = []

abbrev pub events_by : LinkRate → Timestamps → List run.Outcome → List ClassEvent
events_by rate kept [] = []
events_by rate kept (o ∷ os) = event_by rate kept o ++ events_by rate (stamps_after kept o) os

-- ---- sums
-- the sums of the packets whose class is in the group
abbrev pub counted : (ℕ → Bool) → Counts → List ClassEvent → Counts
counted member c [] = c
counted member c (e ∷ es) = counted member (if member e.class then with_event e.event c else c) es

abbrev pub any_class : ℕ → Bool
any_class c = true

-- the group of a class, and the group of a leaf; the list gives the index of each class's leaf
abbrev pub is_class : ℕ → ℕ → Bool
is_class c d = c == d

abbrev pub is_at_leaf : List ℕ → ℕ → ℕ → Bool
is_at_leaf leaves l c = option_map_or (λ m. l == m) (slice_get leaves c) false

-- the delay of a departure, in the list of its class
abbrev pub delay_of : PacketEvent → List ℕ
delay_of (Departed len (Some t)) = t.delay ∷ []
delay_of e = []

abbrev pub delays_at : ℕ → ℕ → PacketEvent → List ℕ
delays_at c d e = if c == d then delay_of e else []

-- the delays of a class, in the order of its departures
abbrev pub delays_in : ℕ → List ClassEvent → List ℕ
delays_in c [] = []
delays_in c (e ∷ es) = delays_at c e.class e.event ++ delays_in c es
