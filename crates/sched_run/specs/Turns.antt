-- The results of a step of a script.
use Rattle.std.specs.Prelude.{◌≡◌, ◌≤◌, ◌<◌, ℕ, Option, None, Some, List, ◌++◌, map, length, IfSome, IfNone, ⊤}
use Rattle.packet_defs.specs.declared.packet.Packet.{Packet}
use Rattle.policy_defs.specs.Policy.{Policy}
use Rattle.sched_defs.specs.SourceState.{SourceState}
use Rattle.sched_defs.specs.Events.{Event, Arrive, outcomes, empty_in}
use Rattle.sched_defs.specs.Script.{Step, step_events, left_by, stop_at}
use Rattle.sched_core.specs.declared.scheduler.Scheduler.{Ghosts}
use Rattle.sched_defs.specs.declared.ending.Ending.{Ending}
use Rattle.sched_defs.specs.declared.ending.Ending.TheVariants.{Whole, BadCapture, PastLast}
use Rattle.sched_defs.specs.Packets.{Left, Came, IsOver}
use Rattle.sched_run.specs.Steps.{asked_by}
use Rattle.sched_run.specs.Stages.{Stage, event_of, FromEach, Makes, Stops}
use Rattle.sched_run.specs.Recording.{Recordings}

-- ---- arrivals
-- these packets were read, and no more if the run ends this way
abbrev pub CameUntil : Option Ending → ℕ → Option Left → Option Left → List Packet → Type 0
CameUntil None event before after packets = Came before after packets
CameUntil (Some (Whole unsent)) event before after packets = ⊥
CameUntil (Some (BadCapture c p)) event before after packets = IfSome before (λ l. (l.packets ≡ packets) × (l.fault ≡ Some (record { code = c; place = p })))
CameUntil (Some (PastLast e)) event before after packets = (e ≡ event) × Came before after packets × IsOver after

-- P, unless a fault of the capture ends the run
abbrev pub GoesOn : Option Ending → Type 0 → Type 0
GoesOn (Some (BadCapture c p)) P = ⊤
GoesOn ending P = P

-- as many as were asked for, or fewer if the run ends
abbrev pub CameOf : Option Ending → ℕ → ℕ → Type 0
CameOf None asked count = count ≡ asked
CameOf (Some ending) asked count = count < asked

-- the packets asked for, or fewer, were read and arrived
pub record Arrives {C U W : Type 0} (S : Ghosts C U) (R : Recordings W) (policy : Policy) (asked : ℕ) (ending : Option Ending) (before after : Option Left) (old new : Stage C U W) : Type 0 where
  pub packets : List Packet
  pub count : CameOf ending asked (length packets)
  pub came : CameUntil ending (event_of new.tally) before after packets
  pub made : Makes S R policy (map Arrive packets) old new

-- these packets were a prefix of those left
abbrev pub WereFirst : Option Left → List Packet → Type 0
WereFirst before packets = IfSome before (λ l. (others : List Packet) × (packets ++ others ≡ l.packets))

-- the packets asked for, or fewer, were read, and their arrivals stopped
pub record ArrivalsStop {C U W : Type 0} (S : Ghosts C U) (R : Recordings W) (policy : Policy) (asked : ℕ) (before : Option Left) (old : Stage C U W) (c : C) (u : U) (written : Option (List ℕ)) : Type 0 where
  pub packets : List Packet
  pub count : length packets ≤ asked
  pub first : WereFirst before packets
  pub stop : Stops S R policy (map Arrive packets) old c u written

-- ---- steps
-- the events of a step over the packets left, from a state; how they end the run, or the rest that
-- they leave
pub record IsTurn (step : Step) (ending : Option Ending) (event : ℕ) (events : List Event) (before : Left) (after : Option Left) (s : SourceState) : Type 0 where
  pub are : events ≡ step_events step before.packets s
  pub ends : ending ≡ stop_at step before.packets before.fault event
  pub rest : IfNone ending (after ≡ Some (record { packets = left_by step before.packets; fault = before.fault }))

-- all events of a step were made
pub record Turns {C U W : Type 0} (S : Ghosts C U) (R : Recordings W) (policy : Policy) (step : Step) (ending : Option Ending) (before after : Option Left) (old new : Stage C U W) : Type 0 where
  pub events : List Event
  pub made : Makes S R policy events old new
  pub few : FromEach S policy old (λ s. empty_in (outcomes policy events s) ≤ asked_by step)
  pub told : IfSome before (λ l. FromEach S policy old (λ s. IsTurn step ending (event_of new.tally) events l after s))

-- ---- events that stop
-- these events are a prefix of all
abbrev pub AreFirst : List Event → List Event → Type 0
AreFirst events all = (others : List Event) × (events ++ others ≡ all)

-- a prefix of the events over the packets left was made
pub record StopsAmid {C U W : Type 0} (S : Ghosts C U) (R : Recordings W) (policy : Policy) (all : Left → SourceState → List Event) (before : Option Left) (old : Stage C U W) (c : C) (u : U) (written : Option (List ℕ)) : Type 0 where
  pub events : List Event
  pub stop : Stops S R policy events old c u written
  pub first : IfSome before (λ l. FromEach S policy old (λ s. AreFirst events (all l s)))
