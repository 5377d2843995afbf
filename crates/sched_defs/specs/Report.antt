-- The report of a run.
use Rattle.std.specs.Prelude.{ℕ, ◌+◌, nat_le, if◌then◌else◌, Option, None, Some, List, [], ◌∷◌, ◌++◌, codes}
use Rattle.tree_defs.specs.SourceTree.{size}
use Rattle.packet_defs.specs.declared.packet.Packet.{Packet}
use Rattle.policy_defs.specs.Policy.{Policy, name_at}
use Rattle.outside_core.specs.Report.{arrival_line, departure_line, drop_line, empty_line, end_line, fault_line}
use Rattle.sched_defs.specs.SourceState.{SourceState, start}
use Rattle.sched_defs.specs.Events.{Outcome, Arrived, Departed, Dropped, Empty, after, outcomes, pushed_in, popped_in, dropped_in, empty_in}
use Rattle.sched_defs.specs.declared.ending.Ending.{Ending}
use Rattle.sched_defs.specs.declared.ending.Ending.TheVariants.{Whole, BadCapture, PastLast}
use Rattle.sched_defs.specs.Faults.{FaultAt}
use Rattle.sched_defs.specs.Script.{Step, Course, course}

-- the report line for the outcome of the event with this number
abbrev pub outcome_line : Policy → ℕ → Outcome → List ℕ
outcome_line policy event (Arrived p a ranks) = arrival_line event p.number (name_at policy a) ranks
outcome_line policy event (Departed p a ranks start) = departure_line event p.number (name_at policy a) ranks start
outcome_line policy event (Dropped p a) = drop_line event p.number (name_at policy a)
outcome_line policy event Empty = empty_line event

-- the report lines for outcomes, the first of which is of the event with this number
abbrev pub lines_from : Policy → ℕ → List Outcome → List ℕ
lines_from policy event [] = []
lines_from policy event (o ∷ os) = outcome_line policy event o ++ lines_from policy (event + 1) os

-- the error code of a script that asks for a packet past the last
abbrev pub past_last : ℕ
past_last = 3

-- the number of packets dropped is shown from version 2 on, since no leaf of version 1 has a limit
abbrev pub shown_drops : Policy → ℕ → Option ℕ
shown_drops policy dropped = if nat_le 2 policy.version then Some dropped else None

-- the last line of a report after these outcomes, with `held` packets queued
abbrev pub last_line : Policy → List Outcome → ℕ → Ending → List ℕ
last_line policy os held (Whole unsent) = end_line (pushed_in os) (popped_in os) (empty_in os) held unsent (shown_drops policy (dropped_in os))
last_line policy os held (BadCapture c p) = fault_line (codes "capture") c p
last_line policy os held (PastLast event) = fault_line (codes "script") past_last event

-- the report of a course from a state
abbrev pub course_report : Policy → Course → SourceState → List ℕ
course_report policy c s =
    lines_from policy 1 (outcomes policy c.events s) ++ last_line policy (outcomes policy c.events s) (size (after policy c.events s).tree) c.ending

-- the report of a script over packets and the fault after them
abbrev pub report : Policy → List Step → List Packet → Option FaultAt → List ℕ
report policy steps packets fault = course_report policy (course policy steps packets fault (start policy) 1) (start policy)
