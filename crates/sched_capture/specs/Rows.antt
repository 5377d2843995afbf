-- Worked answers of runs over a capture.
use Rattle.std.specs.Prelude.{◌≡◌, refl, ℕ, None, Some, List, [], ◌∷◌, ◌++◌, replicate, codes}
use Rattle.std.specs.Fmt.{digits}
use Rattle.pcap_defs.specs.Packet.{CapturedPacket}
use Rattle.pcap_defs.specs.Reading.{capture_of, head_of, front_of, records_from}
use Rattle.pcap_defs.specs.Contents.{FileContents, no_capture, holds}
use Rattle.pcapng_defs.specs.NgContents.{in_file}
use Rattle.pcap_core.specs.Bytes.{header_bytes, two_packets_file}
use Rattle.packet_defs.specs.declared.packet.Packet.{Packet}
use Rattle.policy_defs.specs.Policy.{no_marks, one_leaf}
use Rattle.policy_rules.specs.Resolved.{Resolved}
use Rattle.sched_defs.specs.Events.{Arrive, Depart}
use Rattle.sched_defs.specs.Script.{Departures, Rest}
use Rattle.sched_defs.specs.SendTime.{plain_rate}
use Rattle.sched_defs.specs.Pace.{Script, Link}
use Rattle.sched_defs.specs.declared.ending.Ending.TheVariants as run
use Rattle.tap_core.specs.Lists.{departed}
use Rattle.sched_capture.specs.SingleLinkType.{one_link_in}
use Rattle.sched_capture.specs.declared.departures.ForwardEnding.TheVariants.{Whole, BadCapture, OtherLink, Late}
use Rattle.sched_capture.specs.Answers.{RunAnswer, refusal_answer, answer_over, shown_by}
use Rattle.sched_capture.specs.Forwards.{ForwardAnswer, forward_over, forward_answer}
use Rattle.sched_capture.specs.Loads.{load_counts}

-- all packets have the one class of one leaf
abbrev one_class : Resolved
one_class = record { policy = one_leaf; conditions = [] ∷ [] }

-- a packet of 60 bytes, of which four are captured; `last` is the fourth byte
abbrev captured : ℕ → ℕ → ℕ → CapturedPacket
captured link moment last = record { link = link; moment = moment; original = 60; captured = 0 ∷ 0 ∷ 0 ∷ last ∷ [] }

-- its record, if it starts at this second
abbrev sent : ℕ → ℕ → List ℕ
sent seconds last =
    (seconds ∷ 0 ∷ 0 ∷ 0 ∷ 0 ∷ 0 ∷ 0 ∷ 0 ∷ []) ++ (4 ∷ 0 ∷ 0 ∷ 0 ∷ 60 ∷ 0 ∷ 0 ∷ 0 ∷ []) ++ (0 ∷ 0 ∷ 0 ∷ last ∷ [])

-- the same packet in a run, with this number
abbrev arrival : ℕ → ℕ → Packet
arrival n moment = record {
  number = n;
  class = 0;
  len = 60;
  moment = moment;
  flow = record { version = 0; source = 0; target = 0; proto = 0; sport = 0; dport = 0 };
}

abbrev at_once : FileContents
at_once = holds (record { packets = captured 147 1000000000 1 ∷ captured 147 1000000000 2 ∷ []; fault = None })

-- two packets a second apart, followed by a cut record or a packet of another link type
abbrev with_a_cut_record : FileContents
with_a_cut_record = holds (record { packets = captured 147 1000000000 1 ∷ captured 147 2000000000 2 ∷ []; fault = Some (record { code = 6; place = 3 }) })

abbrev with_another_link : FileContents
with_another_link = holds (record { packets = captured 147 1000000000 1 ∷ captured 147 2000000000 2 ∷ captured 101 3000000000 3 ∷ []; fault = None })

-- ---- forwarded
-- the answer at 60 bytes per second
abbrev forwarded : FileContents → ForwardAnswer
forwarded file = forward_over one_class (plain_rate 60) 147 (one_link_in file)

-- the second packet starts when the first is sent, a second after it arrived
forwarded-whole : forwarded at_once ≡ record {
  ending = Whole;
  text = header_bytes 147 ++ sent 1 1 ++ sent 2 2;
  events = Some (Arrive (arrival 1 1000000000) ∷ Arrive (arrival 2 1000000000) ∷ Depart (Some 1000000000) ∷ Depart (Some 2000000000) ∷ []);
}
forwarded-whole = refl

-- if the run ends at a fault, the queued packet isn't sent, and the capture of the others is
-- complete
forwarded-cut_record : forwarded with_a_cut_record ≡ record {
  ending = BadCapture 6 3;
  text = header_bytes 147 ++ sent 1 1;
  events = Some (Arrive (arrival 1 1000000000) ∷ Depart (Some 1000000000) ∷ Arrive (arrival 2 2000000000) ∷ []);
}
forwarded-cut_record = refl

forwarded-another_link : forwarded with_another_link ≡ record {
  ending = OtherLink 3;
  text = header_bytes 147 ++ sent 1 1;
  events = Some (Arrive (arrival 1 1000000000) ∷ Depart (Some 1000000000) ∷ Arrive (arrival 2 2000000000) ∷ []);
}
forwarded-another_link = refl

-- the first of two packets starts at 2^32 seconds: it gets no record, and the other doesn't depart
forwarded-late : forwarded (holds (record { packets = captured 147 4294967296000000000 1 ∷ captured 147 4294967296000000000 2 ∷ []; fault = None })) ≡ record {
  ending = Late;
  text = header_bytes 147;
  events = Some (Arrive (arrival 1 4294967296000000000) ∷ Arrive (arrival 2 4294967296000000000) ∷ Depart (Some 4294967296000000000) ∷ []);
}
forwarded-late = refl

-- a file without packets gives a header with link type 0
forwarded-none : forward_over one_class (plain_rate 60) 0 (one_link_in (holds (record { packets = []; fault = None }))) ≡ record { ending = Whole; text = header_bytes 0; events = Some [] }
forwarded-none = refl

pub forwarded-refused : forwarded (holds (record { packets = []; fault = Some (record { code = 6; place = 1 }) })) ≡ record { ending = BadCapture 6 1; text = codes "fault capture 6 1\n"; events = None }
unfolding digits
forwarded-refused = refl

-- a reader finds the starts, not the timestamps of the packets
forwarded-read_back : in_file (forwarded at_once).text ≡ holds (record { packets = captured 147 1000000000 1 ∷ captured 147 2000000000 2 ∷ []; fault = None })
unfolding capture_of head_of front_of records_from
forwarded-read_back = refl

-- from the bytes of one capture to those of another: both packets have four bytes, all of them
-- captured
abbrev sent_whole : ℕ → ℕ → List ℕ
sent_whole seconds last =
    (seconds ∷ 0 ∷ 0 ∷ 0 ∷ 0 ∷ 0 ∷ 0 ∷ 0 ∷ []) ++ (4 ∷ 0 ∷ 0 ∷ 0 ∷ 4 ∷ 0 ∷ 0 ∷ 0 ∷ []) ++ (0 ∷ 0 ∷ 0 ∷ last ∷ [])

pub forwarded-file : (forward_answer one_class (plain_rate 4) two_packets_file).text ≡ header_bytes 147 ++ sent_whole 1 1 ++ sent_whole 2 2
unfolding capture_of head_of front_of records_from
forwarded-file = refl

-- 24 bytes without a magic number
pub forwarded-no_capture : forward_answer one_class (plain_rate 4) (replicate 24 0) ≡ record { ending = BadCapture 2 0; text = codes "fault capture 2 0\n"; events = None }
unfolding capture_of head_of digits
forwarded-no_capture = refl

-- ---- paced
abbrev scripted : FileContents → RunAnswer
scripted file = answer_over one_class (Script (Rest ∷ Departures 3 ∷ [])) file

pub scripted-whole : (scripted at_once).text ≡ codes "a 1 1 root 0\na 2 2 root 0\nd 3 1 root 0\nd 4 2 root 0\ne 5\nend pushed 2 popped 2 empty 1 held 0 unsent 0\n"
unfolding digits
scripted-whole = refl

scripted-events : (scripted at_once).events ≡ Some (Arrive (arrival 1 1000000000) ∷ Arrive (arrival 2 1000000000) ∷ Depart None ∷ Depart None ∷ Depart None ∷ [])
scripted-events = refl

-- packets of several link types are run
pub linked-another_link : (answer_over one_class (Link (plain_rate 60)) with_another_link).text
    ≡ codes "a 1 1 root 0\nd 2 1 root 0 1000000000\na 3 2 root 0\nd 4 2 root 0 2000000000\na 5 3 root 0\nd 6 3 root 0 3000000000\nend pushed 3 popped 3 empty 0 held 0 unsent 0\n"
unfolding digits
linked-another_link = refl

scripted-cut_record : (scripted with_a_cut_record).ending ≡ run.BadCapture 6 3
scripted-cut_record = refl

pub refused-whole : refusal_answer (record { code = 2; place = 0 }) ≡ record { ending = run.BadCapture 2 0; text = codes "fault capture 2 0\n"; events = None }
unfolding digits
refused-whole = refl

-- taps are shown the packets that departed, and nothing if no run begins
shown_by-two : shown_by one_leaf (scripted at_once)
    ≡ Some (departed (record { packet = 1; class = 0; leaf = 0; len = 60 }) ∷ departed (record { packet = 2; class = 0; leaf = 0; len = 60 }) ∷ [])
shown_by-two = refl

shown_by-refused : shown_by one_leaf (scripted (no_capture (record { code = 2; place = 0 }))) ≡ None
shown_by-refused = refl

-- ---- a load
-- two departures find no packet, and the sum over the eight departed packets passes 2^32
counted : load_counts (record one_leaf { classes = replicate 8 (record { marks = no_marks; leaf = [] }) }) (record { seed = 114; count = 10 })
    ≡ record { pushed = 8; popped = 8; empty = 2; sum = 3607554180 }
counted = refl
