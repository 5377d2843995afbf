-- The run of a script over the packets of a capture.
use Rattle.std.specs.Prelude.{ℕ, ◌+◌, nat_lt, if◌then◌else◌, Option, None, Some, List, [], ◌∷◌, ◌++◌, length, map, take, drop, replicate}
use Rattle.tree_defs.specs.SourceTree.{size}
use Rattle.packet_defs.specs.declared.packet.Packet.{Packet}
use Rattle.policy_defs.specs.Policy.{Policy}
use Rattle.sched_defs.specs.SourceState.{SourceState}
use Rattle.sched_defs.specs.declared.ending.Ending.{Ending}
use Rattle.sched_defs.specs.declared.ending.Ending.TheVariants.{Whole, BadCapture, PastLast}
use Rattle.sched_defs.specs.Faults.{FaultAt}
use Rattle.sched_defs.specs.Events.{Event, Arrive, Depart, after}

-- a line of a script: N arrivals, N departures, an arrival for each packet left, or a departure for
-- each queued packet
pub data Step : Type 0 where
  Arrivals : ℕ → Step
  Departures : ℕ → Step
  Rest : Step
  Drain : Step

-- the events of a run, and how it ends
pub record Course : Type 0 where
  pub events : List Event
  pub ending : Ending

-- the events of a step, given the packets left and the state
abbrev pub step_events : Step → List Packet → SourceState → List Event
step_events (Arrivals n) packets s = map Arrive (take n packets)
step_events (Departures n) packets s = replicate n (Depart None)
step_events Rest packets s = map Arrive packets
step_events Drain packets s = replicate (size s.tree) (Depart None)

-- the packets left after a step
abbrev pub left_by : Step → List Packet → List Packet
left_by (Arrivals n) packets = drop n packets
left_by (Departures n) packets = packets
left_by Rest packets = []
left_by Drain packets = packets

-- if no packet is left, the run ends at the capture's fault, or else at the event that asks for a
-- packet
abbrev pub missing : Option FaultAt → ℕ → Ending
missing None event = PastLast event
missing (Some fault) event = BadCapture fault.code fault.place

-- if all packets were asked for, the capture's fault ends the run
abbrev pub at_fault : Option FaultAt → Option Ending
at_fault None = None
at_fault (Some fault) = Some (BadCapture fault.code fault.place)

-- how a step ends the run, if it does; `event` is the number after its last event
abbrev pub stop_at : Step → List Packet → Option FaultAt → ℕ → Option Ending
stop_at (Arrivals n) packets fault event = if nat_lt (length packets) n then Some (missing fault event) else None
stop_at (Departures n) packets fault event = None
stop_at Rest packets fault event = at_fault fault
stop_at Drain packets fault event = None

-- how a run ends after its last step
abbrev pub at_end : Option FaultAt → List Packet → Ending
at_end None packets = Whole (length packets)
at_end (Some fault) packets = BadCapture fault.code fault.place

abbrev pub behind : List Event → Course → Course
behind events c = record { events = events ++ c.events; ending = c.ending }

abbrev pub stopped_or : List Event → Option Ending → Course → Course
stopped_or events (Some ending) c = record { events = events; ending = ending }
stopped_or events None c = behind events c

-- the course of a script over packets and the fault after them, from a state; the first event has
-- this number
abbrev pub course : Policy → List Step → List Packet → Option FaultAt → SourceState → ℕ → Course
course policy [] packets fault s event = record { events = []; ending = at_end fault packets }
course policy (step ∷ steps) packets fault s event =
    stopped_or (step_events step packets s)
    (stop_at step packets fault (event + length (step_events step packets s)))
    (course policy steps (left_by step packets) fault (after policy (step_events step packets s) s) (event + length (step_events step packets s)))

-- the ending, if it is at a fault of the capture
abbrev pub ends_at_fault : Ending → Option Ending
ends_at_fault (BadCapture c p) = Some (BadCapture c p)
ends_at_fault (Whole unsent) = None
ends_at_fault (PastLast event) = None
