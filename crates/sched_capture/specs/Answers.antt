-- The answer of a run through a policy's own tree of queues.
use Rattle.std.specs.Prelude.{◌≡◌, ℕ, Option, None, Some, option_map, List, [], codes}
use Rattle.outside_core.specs.Written.{Appended, AppendedPrefix}
use Rattle.pcap_defs.specs.Contents.{FileContents, no_capture, holds}
use Rattle.pcapng_defs.specs.NgContents.{in_file}
use Rattle.packet_defs.specs.declared.packet.Packet.{Packet}
use Rattle.policy_defs.specs.Policy.{Policy}
use Rattle.outside_core.specs.Report.{fault_line}
use Rattle.sched_defs.specs.SourceState.{start}
use Rattle.sched_defs.specs.Events.{Event, outcomes}
use Rattle.sched_defs.specs.declared.ending.Ending.{Ending}
use Rattle.sched_defs.specs.declared.ending.Ending.TheVariants.{BadCapture}
use Rattle.sched_defs.specs.Faults.{FaultAt}
use Rattle.sched_defs.specs.Pace.{Pace, paced_course, paced_report}
use Rattle.policy_rules.specs.Resolved.{Resolved}
use Rattle.sched_capture.specs.Arrivals.{left_in}
use Rattle.sched_run.specs.Shown.{shown_in}
use Rattle.tap_core.specs.Lists.{Shown}
use Rattle.tap_core.specs.Watching.{Sight, Watches}

-- how the run ends, the text written, and the events if the run begins
pub record RunAnswer : Type 0 where
  pub ending : Ending
  pub text : List ℕ
  pub events : Option (List Event)

-- a fault at the beginning gives one line
abbrev pub refusal_answer : FaultAt → RunAnswer
refusal_answer fault = record {
  ending = BadCapture fault.code fault.place;
  text = fault_line (codes "capture") fault.code fault.place;
  events = None;
}

-- the file is no capture, the run ends with that fault, and its line is written after the text
pub record IsRefusal (file : FileContents) (ending : Ending) (before written : Option (List ℕ)) : Type 0 where
  pub fault : FaultAt
  pub is : file ≡ no_capture fault
  pub ends : ending ≡ (refusal_answer fault).ending
  pub text : Appended before written (refusal_answer fault).text

-- if the file is no capture, a prefix of its line is written, and otherwise nothing
abbrev pub IsRefusalPart : FileContents → Option (List ℕ) → Option (List ℕ) → Type 0
IsRefusalPart (no_capture fault) before written = AppendedPrefix before written (refusal_answer fault).text
IsRefusalPart (holds contents) before written = Appended before written []

-- a paced run goes over the packets, and then meets the fault after them
abbrev pub answer_of : Policy → Pace → List Packet → Option FaultAt → RunAnswer
answer_of policy pace arriving fault = record {
  ending = (paced_course policy pace arriving fault (start policy) 1).ending;
  text = paced_report policy pace arriving fault;
  events = Some (paced_course policy pace arriving fault (start policy) 1).events;
}

abbrev pub answer_over : Resolved → Pace → FileContents → RunAnswer
answer_over policy pace (no_capture fault) = refusal_answer fault
answer_over policy pace (holds contents) = answer_of policy.policy pace (left_in policy 0 contents).packets (left_in policy 0 contents).fault

-- the answer for a policy, a pace, and the bytes of a capture of either format
abbrev pub paced_answer : Resolved → Pace → List ℕ → RunAnswer
paced_answer policy pace file = answer_over policy pace (in_file file)

-- the packets that taps are shown, if the run begins
abbrev pub shown_by : Policy → RunAnswer → Option (List Shown)
shown_by policy answer = option_map (λ events. shown_in policy (outcomes policy events (start policy))) answer.events

-- taps of the named kinds watched the run; or no run began, and the taps are unchanged
abbrev pub HaveWatched : Option (List Shown) → Sight → Sight → Type 0
HaveWatched None a b = b ≡ a
HaveWatched (Some shown) a b = Watches shown a b
