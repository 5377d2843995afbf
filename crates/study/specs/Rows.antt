-- Worked examples of studies.
use Rattle.std.specs.Prelude.{◌≡◌, refl, ℕ, None, Some, List, [], ◌∷◌, ◌++◌, map, codes}
use Rattle.std.specs.Fmt.{digits}
use Rattle.pcap_defs.specs.Reading.{capture_of, head_of, front_of, records_from}
use Rattle.policy_defs.specs.Policy.{one_leaf}
use Rattle.policy_rules.specs.Resolved.{Resolved}
use Rattle.policy_core.specs.Office.{office_lines}
use Rattle.sched_defs.specs.Rows.{in_turn, by_weight}
use Rattle.sched_defs.specs.declared.ending.Ending.TheVariants.{Whole, BadCapture, PastLast}
use Rattle.study.specs.Labels.{all_leaf_labels, leaf_table, class_labels}
use Rattle.study.specs.SumRuns.{ending_line}
use Rattle.sched_defs.specs.Pace.{Link}
use Rattle.sched_defs.specs.declared.rate.LinkRate.{LinkRate}
use Rattle.replay_app.specs.Answer.{text_alone}
use Rattle.replay_app.specs.Output.{direct_run}
use Rattle.replay_app.specs.Statuses.{run_statuses, link_statuses}
use Rattle.study.specs.Files.{with_target, target_statuses}
use Rattle.study.specs.Studied.{departures}

-- one leaf for all packets
abbrev fifo : Resolved
fifo = record { policy = one_leaf; conditions = [] ∷ [] }

-- the record of a packet of 60 bytes with this timestamp in seconds, of which no byte is captured
abbrev record_at : ℕ → List ℕ
record_at seconds = seconds ∷ 0 ∷ 0 ∷ 0 ∷ 0 ∷ 0 ∷ 0 ∷ 0 ∷ 0 ∷ 0 ∷ 0 ∷ 0 ∷ 60 ∷ 0 ∷ 0 ∷ 0 ∷ []

-- a header's version, zone, accuracy, snapshot length and link type
abbrev after_magic : List ℕ
after_magic = 2 ∷ 0 ∷ 4 ∷ 0 ∷ 0 ∷ 0 ∷ 0 ∷ 0 ∷ 0 ∷ 0 ∷ 0 ∷ 0 ∷ 0 ∷ 0 ∷ 4 ∷ 0 ∷ 1 ∷ 0 ∷ 0 ∷ 0 ∷ []

-- two packets in a capture with timestamps in microseconds
abbrev capture : List ℕ
capture = (0xD4 ∷ 0xC3 ∷ 0xB2 ∷ 0xA1 ∷ []) ++ after_magic ++ record_at 1 ++ record_at 1

-- their departures in a capture with nanoseconds
abbrev sent : List ℕ
sent = (0x4D ∷ 0x3C ∷ 0xB2 ∷ 0xA1 ∷ []) ++ after_magic ++ record_at 1 ++ record_at 3

-- a packet of 60 bytes takes 2 s on a link of 60 bytes a second that takes 60 more for each packet
abbrev rate : LinkRate
rate = record { bytes = 60; overhead = 60 }

link_with_overhead : direct_run fifo (Link rate) capture
    ≡ text_alone 0 (codes "a 1 1 root 0\na 2 2 root 0\nd 3 1 root 0 1000000000\nd 4 2 root 0 3000000000\nend pushed 2 popped 2 empty 0 held 0 unsent 0\n")
unfolding digits capture_of head_of front_of records_from
link_with_overhead = refl

departures_with_overhead : departures fifo rate capture ≡ text_alone 0 sent
unfolding capture_of head_of front_of records_from
departures_with_overhead = refl

-- a file that is no capture gives one line
departures_without_a_capture : departures fifo rate (0xD4 ∷ 0xC3 ∷ 0xB2 ∷ []) ≡ text_alone 7 (codes "fault capture 1 0\n")
unfolding digits capture_of head_of
departures_without_a_capture = refl

-- ---- sums
-- the root has no label
leaves_by_weight : all_leaf_labels by_weight.tree ≡ record { name = codes "a"; weight = 3 } ∷ record { name = codes "b"; weight = 1 } ∷ []
leaves_by_weight = refl

-- the root has number 0, and the leaf of the second class has number 2
leaves_of_classes : leaf_table in_turn ≡ 0 ∷ 1 ∷ []
leaves_of_classes = refl

names_of_classes : map (λ l. l.name) (class_labels office_lines)
    ≡ codes "voice" ∷ codes "video" ∷ codes "ssh" ∷ codes "dns" ∷ codes "web" ∷ codes "mail" ∷ codes "backup" ∷ codes "other" ∷ []
names_of_classes = refl

line_after_the_sums : ending_line (Whole 5) ∷ ending_line (BadCapture 5 8) ∷ ending_line (PastLast 9) ∷ [] ≡ [] ∷ codes "fault capture 5 8\n" ∷ codes "fault script 3 9\n" ∷ []
unfolding digits
line_after_the_sums = refl

-- ---- files and statuses
without_a_target : with_target None (codes "c" ∷ codes "e" ∷ []) ≡ codes "c" ∷ codes "e" ∷ []
without_a_target = refl

with_a_target : with_target (Some (codes "t")) (codes "c" ∷ []) ≡ codes "t" ∷ codes "c" ∷ []
with_a_target = refl

statuses_without_a_target : target_statuses None run_statuses ≡ 6 ∷ 7 ∷ 0 ∷ []
statuses_without_a_target = refl

statuses_with_a_target : target_statuses (Some (codes "t")) link_statuses ≡ 4 ∷ 5 ∷ 7 ∷ 0 ∷ []
statuses_with_a_target = refl
