-- The answer of a link's run over a capture whose departures are written as a capture.
use Rattle.std.specs.Prelude.{◌≡◌, refl, ℕ, ◌==◌, Bool, if◌then◌else◌, Option, None, Some, List, map, codes}
use Rattle.pcap_defs.specs.Contents.{FaultAt, FileContents, no_capture, holds}
use Rattle.pcapng_defs.specs.NgContents.{in_file}
use Rattle.policy_defs.specs.Policy.{Policy}
use Rattle.policy_rules.specs.Resolved.{Resolved}
use Rattle.outside_core.specs.Report.{fault_line}
use Rattle.sched_defs.specs.SourceState.{start}
use Rattle.sched_defs.specs.Events.{Event, Outcome, outcomes}
use Rattle.sched_defs.specs.declared.ending.Ending.{Ending}
use Rattle.sched_defs.specs.declared.ending.Ending.TheVariants as run
use Rattle.sched_defs.specs.Script.{Course}
use Rattle.sched_defs.specs.Link.{link_course}
use Rattle.sched_defs.specs.Packets.{Left, Captured, captured_from}
use Rattle.sched_defs.specs.declared.rate.LinkRate.{LinkRate}
use Rattle.pcap_core.specs.Bytes.{records_bytes}
use Rattle.forward_defs.specs.Sendings.{sendings, up_to_late, has_late}
use Rattle.forward_defs.specs.Forwarded.{sent_record, forward_bytes}
use Rattle.forward_defs.specs.SingleLinkType.{other_link}
use Rattle.sched_embedded.specs.Laid.{Laid}
use Rattle.sched_embedded.specs.Fabrics.{FabricRun}
use Rattle.sched_capture.specs.Arrivals.{left_in}
use Rattle.sched_capture.specs.SingleLinkType.{one_link_in, link_in}
use Rattle.sched_capture.specs.declared.departures.ForwardEnding.{ForwardEnding}
use Rattle.sched_capture.specs.declared.departures.ForwardEnding.TheVariants.{Whole, BadCapture, OtherLink, Late}

-- how the run ends, the bytes written, and the events if the run begins
pub record ForwardAnswer : Type 0 where
  pub ending : ForwardEnding
  pub text : List ℕ
  pub events : Option (List Event)

-- a fault before the run gives one line
abbrev pub forward_refusal : FaultAt → ForwardAnswer
forward_refusal fault = record {
  ending = BadCapture fault.code fault.place;
  text = fault_line (codes "capture") fault.code fault.place;
  events = None;
}

-- The ending of a run, unless a late departure ended it early. A packet of another link type is one
-- of the faults of a run.
abbrev pub forward_ending : Option Ending → ForwardEnding
forward_ending None = Late
forward_ending (Some (run.Whole unsent)) = Whole
forward_ending (Some (run.BadCapture code place)) = if code == other_link then OtherLink place else BadCapture code place
forward_ending (Some (run.PastLast event)) = Whole

-- the ending for a rejected file, which is the capture's fault
abbrev pub refusal_ending : Ending → ForwardEnding
refusal_ending (run.BadCapture code place) = BadCapture code place
refusal_ending ending = Whole

-- the ending of a course, unless one of its departures is late
abbrev pub ending_unless : Bool → Ending → Option Ending
ending_unless late ending = if late then None else Some ending

-- the run of a link over the packets and the fault after them
abbrev pub forward_course : Policy → LinkRate → Left → Course
forward_course policy rate l = link_course policy rate l.packets l.fault (start policy) 0

-- its events up to the first late departure
abbrev pub forward_events : Policy → LinkRate → Left → List Event
forward_events policy rate l = up_to_late (forward_course policy rate l).events

-- the bytes of the departures among the outcomes, after the header
abbrev pub sent_bytes : Captured → List Outcome → List ℕ
sent_bytes captured os = records_bytes (map (sent_record captured) (sendings os))

-- the run through a fabric into which the policy's tree is laid
abbrev pub forward_through : Policy → Laid → LinkRate → Left → FabricRun
forward_through policy laid rate l = record { policy = policy; laid = laid; events = forward_events policy rate l }

abbrev pub forward_of : Policy → LinkRate → ℕ → Captured → Left → ForwardAnswer
forward_of policy rate link captured l = record {
  ending = forward_ending (ending_unless (has_late (forward_course policy rate l).events) (forward_course policy rate l).ending);
  text = forward_bytes link captured (outcomes policy (forward_events policy rate l) (start policy));
  events = Some (forward_events policy rate l);
}

-- the answer over the packets of one link type
abbrev pub forward_over : Resolved → LinkRate → ℕ → FileContents → ForwardAnswer
forward_over policy rate link (no_capture fault) = forward_refusal fault
forward_over policy rate link (holds contents) = forward_of policy.policy rate link (captured_from 1 contents.packets) (left_in policy 0 contents)

-- the answer for a policy, a link's rate, and the bytes of a capture of either format
abbrev pub forward_answer : Resolved → LinkRate → List ℕ → ForwardAnswer
forward_answer policy rate file = forward_over policy rate (link_in (in_file file)) (one_link_in (in_file file))

forward_ending-other_link : forward_ending (Some (run.BadCapture 20 3)) ≡ OtherLink 3
forward_ending-other_link = refl

forward_ending-fault : forward_ending (Some (run.BadCapture 11 4)) ≡ BadCapture 11 4
forward_ending-fault = refl
