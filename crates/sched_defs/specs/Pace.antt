-- The pace of a run: the lines of a script, or a link's rate.
use Rattle.std.specs.Prelude.{ℕ, Option, List}
use Rattle.packet_defs.specs.declared.packet.Packet.{Packet}
use Rattle.policy_defs.specs.Policy.{Policy}
use Rattle.sched_defs.specs.SourceState.{SourceState, start}
use Rattle.sched_defs.specs.Faults.{FaultAt}
use Rattle.sched_defs.specs.Script.{Step, Course, course}
use Rattle.sched_defs.specs.Link.{link_course}
use Rattle.sched_defs.specs.Report.{course_report}
use Rattle.sched_defs.specs.declared.rate.LinkRate.{LinkRate}

-- a script's steps, or a link of this rate that is free from the start
pub data Pace : Type 0 where
  Script : List Step → Pace
  Link : LinkRate → Pace

-- the course over packets and the fault after them, from a state; the first event has this number
abbrev pub paced_course : Policy → Pace → List Packet → Option FaultAt → SourceState → ℕ → Course
paced_course policy (Script steps) packets fault s event = course policy steps packets fault s event
paced_course policy (Link rate) packets fault s event = link_course policy rate packets fault s 0

-- the report of a run from the start
abbrev pub paced_report : Policy → Pace → List Packet → Option FaultAt → List ℕ
paced_report policy pace packets fault = course_report policy (paced_course policy pace packets fault (start policy) 1) (start policy)
