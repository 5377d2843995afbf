-- The lines of a small run, beside the lines of its report.
use Rattle.std.specs.Prelude.{◌≡◌, refl, ◌-◌, ◌^◌, None, Some, List, [], ◌∷◌, codes}
use Rattle.std.specs.Fmt.{digits}
use Rattle.rank_defs.specs.Builtins.{fifo, rr}
use Rattle.tree_defs.specs.Tree.{leaf, inner, none, more}
use Rattle.packet_defs.specs.declared.packet.Packet.{Packet}
use Rattle.policy_defs.specs.Policy.{Policy, no_marks}
use Rattle.sched_defs.specs.SendTime.{plain_rate}
use Rattle.sched_defs.specs.Events.{Outcome, Arrived, Departed, Dropped, Empty}
use Rattle.sched_defs.specs.Report.{lines_from}
use Rattle.sched_defs.specs.Rows.{packet, node}
use Rattle.sched_defs.specs.declared.ending.Ending.TheVariants.{Whole, BadCapture, PastLast}
use Rattle.event_json.specs.Json.{times_of, json_from, json_end, json_text}
use Rattle.event_json.specs.declared.counts.Counts.{Counts}

-- two classes with a leaf each
abbrev office : Policy
office = record {
  version = 2;
  tree = inner (node (codes "root") rr) (more (leaf (node (codes "web") fifo)) (more (leaf (node (codes "mail") fifo)) none));
  classes = record { marks = no_marks; leaf = 0 ∷ [] } ∷ record { marks = no_marks; leaf = 1 ∷ [] } ∷ [];
}

abbrev web : Packet
web = packet 1 100 123

abbrev mail : Packet
mail = record (packet 2 60 130) { class = 1 }

-- a packet departs at 500 ns, another is dropped, and then there is none to depart
abbrev a_run : List Outcome
a_run = Arrived web (0 ∷ []) (0 ∷ 3 ∷ []) ∷ Departed web (0 ∷ []) (0 ∷ 3 ∷ []) (Some 500) ∷ Dropped mail (1 ∷ []) ∷ Empty ∷ []

report-a_run : lines_from office 1 a_run ≡ codes "a 1 1 web 0/3\nd 2 1 web 0/3 500\nx 3 2 mail\ne 4\n"
unfolding digits
report-a_run = refl

-- at half a byte per nanosecond, 100 bytes take 200 ns
json-a_run : json_text (Some (plain_rate 500000000)) office a_run (Whole 5) ≡ codes "{\"kind\":\"arrive\",\"event\":1,\"packet\":1,\"leaf\":\"web\",\"class\":1,\"bytes\":100,\"timestamp\":123,\"ranks\":[0,3]}\n{\"kind\":\"depart\",\"event\":2,\"packet\":1,\"leaf\":\"web\",\"class\":1,\"bytes\":100,\"ranks\":[0,3],\"start\":500,\"finish\":700}\n{\"kind\":\"drop\",\"event\":3,\"packet\":2,\"leaf\":\"mail\",\"class\":2,\"bytes\":60,\"timestamp\":130}\n{\"kind\":\"empty\",\"event\":4}\n{\"kind\":\"end\",\"arrived\":1,\"departed\":1,\"dropped\":1,\"empty\":1,\"queued\":0,\"unread\":5}\n"
unfolding digits
json-a_run = refl

-- without a link there are no times
json-no_link : json_from None office 7 (Departed mail (1 ∷ []) (4 ∷ 0 ∷ []) None ∷ []) ≡ codes "{\"kind\":\"depart\",\"event\":7,\"packet\":2,\"leaf\":\"mail\",\"class\":2,\"bytes\":60,\"ranks\":[4,0]}\n"
unfolding digits
json-no_link = refl

abbrev three_queued : Counts
three_queued = record { arrived = 9; departed = 6; dropped = 2; empty = 5 }

json_end-three_queued : json_end three_queued (Whole 0) ≡ codes "{\"kind\":\"end\",\"arrived\":9,\"departed\":6,\"dropped\":2,\"empty\":5,\"queued\":3,\"unread\":0}\n"
unfolding digits
json_end-three_queued = refl

json_end-capture : json_end three_queued (BadCapture 6 3) ≡ codes "{\"kind\":\"fault\",\"input\":\"capture\",\"code\":6,\"place\":3}\n"
unfolding digits
json_end-capture = refl

json_end-script : json_end three_queued (PastLast 17) ≡ codes "{\"kind\":\"fault\",\"input\":\"script\",\"code\":3,\"place\":17}\n"
unfolding digits
json_end-script = refl

-- the overhead of a packet takes time like its bytes: 124 bytes take 248 ns
times_of-overhead : times_of (Some (record { bytes = 500000000; overhead = 24 })) 100 (Some 500) ≡ Some (record { start = 500; finish = 748 })
times_of-overhead = refl

-- a finish past 128 bits is shown as the greatest time
times_of-greatest : times_of (Some (plain_rate 1)) 1 (Some (2 ^ 128 - 2)) ≡ Some (record { start = 2 ^ 128 - 2; finish = 2 ^ 128 - 1 })
times_of-greatest = refl
