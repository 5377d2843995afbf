-- Worked examples of runs.
use Rattle.std.specs.Prelude.{◌≡◌, refl, ℕ, None, Some, List, [], ◌∷◌, map, codes}
use Rattle.std.specs.Fmt.{digits}
use Rattle.sched_defs.specs.Faults.{FaultAt}
use Rattle.rank_defs.specs.declared.environment.FlowKey.{FlowKey}
use Rattle.rank_defs.specs.declared.flow_group.FlowGroup.{FlowGroup}
use Rattle.rank_defs.specs.declared.flow_group.FlowGroup.TheVariants.{FiveTuple, Source}
use Rattle.rank_defs.specs.declared.expression.Op.TheVariants.{Add, Sub}
use Rattle.rank_defs.specs.declared.expression.Var.TheVariants.{Len, Now, Weight, Slack, Rank, Keep}
use Rattle.rank_defs.specs.declared.transaction.Aim.TheVariants.{Rank as AimRank, Keep as AimKeep}
use Rattle.rank_defs.specs.Formulas.{number, variable, two}
use Rattle.rank_defs.specs.Programs.{Program}
use Rattle.rank_defs.specs.Builtins.{set, counter, ranked_by, shortest, strict, fifo, rr, stfq}
use Rattle.tree_defs.specs.Tree.{leaf, inner, none, more}
use Rattle.packet_defs.specs.declared.packet.Packet.{Packet}
use Rattle.policy_defs.specs.declared.limits.Limits.{Limits}
use Rattle.policy_defs.specs.Policy.{Policy, no_marks, no_limits, at_most, Node, one_leaf}
use Rattle.sched_defs.specs.Script.{Arrivals, Departures, Rest, Drain}
use Rattle.sched_defs.specs.Report.{report, shown_drops}

abbrev pub no_flow : FlowKey
no_flow = record { version = 0; source = 0; target = 0; proto = 0; sport = 0; dport = 0 }

abbrev pub packet : ℕ → ℕ → ℕ → Packet
packet n length_in_bytes moment_in_ns = record { number = n; class = 0; len = length_in_bytes; moment = moment_in_ns; flow = no_flow }

abbrev pub two_packets : List Packet
two_packets = packet 1 4 1000000000 ∷ packet 2 4 2000000000 ∷ []

-- the captured bytes of the third record are cut
abbrev pub data_cut : FaultAt
data_cut = record { code = 6; place = 3 }

pub report-one_leaf_two_packets : report one_leaf (Arrivals 1 ∷ Arrivals 1 ∷ Departures 1 ∷ Departures 1 ∷ Departures 1 ∷ []) two_packets None
    ≡ codes "a 1 1 root 0\na 2 2 root 0\nd 3 1 root 0\nd 4 2 root 0\ne 5\nend pushed 2 popped 2 empty 1 held 0 unsent 0\n"
unfolding digits
report-one_leaf_two_packets = refl

pub report-past_the_last_packet : report one_leaf (Arrivals 3 ∷ []) two_packets None ≡ codes "a 1 1 root 0\na 2 2 root 0\nfault script 3 3\n"
unfolding digits
report-past_the_last_packet = refl

pub report-cut_record : report one_leaf (Arrivals 2 ∷ Departures 2 ∷ []) two_packets (Some data_cut)
    ≡ codes "a 1 1 root 0\na 2 2 root 0\nd 3 1 root 0\nd 4 2 root 0\nfault capture 6 3\n"
unfolding digits
report-cut_record = refl

pub report-rest_meets_the_fault : report one_leaf (Rest ∷ Drain ∷ []) two_packets (Some data_cut) ≡ codes "a 1 1 root 0\na 2 2 root 0\nfault capture 6 3\n"
unfolding digits
report-rest_meets_the_fault = refl

pub report-unsent : report one_leaf (Arrivals 1 ∷ []) two_packets None ≡ codes "a 1 1 root 0\nend pushed 1 popped 0 empty 0 held 1 unsent 1\n"
unfolding digits
report-unsent = refl

abbrev pub node : List ℕ → Program → Node
node name program = record { name = name; using = []; program = program; marks = no_marks; limits = no_limits; group = FiveTuple }

-- The root takes the shortest packet's entry first, and the leaf dequeues its longest packet first.
abbrev pub inversion : Policy
inversion = record {
  version = 1;
  tree = inner (node (codes "root") shortest) (more (leaf (node (codes "q") (ranked_by (two Sub (number 2000) (variable Len))))) none);
  classes = record { marks = no_marks; leaf = 0 ∷ [] } ∷ [];
}

pub report-inversion : report inversion (Arrivals 2 ∷ Drain ∷ []) (packet 1 100 0 ∷ packet 2 60 1000000000 ∷ []) None
    ≡ codes "a 1 1 q 100/1900\na 2 2 q 60/1940\nd 3 1 q 60/1900\nd 4 2 q 100/1940\nend pushed 2 popped 2 empty 0 held 0 unsent 0\n"
unfolding digits
report-inversion = refl

-- Two leaves in turn: the leaf that was idle resumes at the other's turn.
abbrev pub in_turn : Policy
in_turn = record {
  version = 1;
  tree = inner (node (codes "root") rr) (more (leaf (node (codes "a") fifo)) (more (leaf (node (codes "b") fifo)) none));
  classes = record { marks = no_marks; leaf = 0 ∷ [] } ∷ record { marks = no_marks; leaf = 1 ∷ [] } ∷ [];
}

abbrev pub of_class : ℕ → ℕ → Packet
of_class n c = record (packet n 1500 0) { class = c }

pub report-in_turn : report in_turn (Arrivals 5 ∷ Departures 4 ∷ Arrivals 1 ∷ Drain ∷ [])
    (of_class 1 1 ∷ of_class 2 0 ∷ of_class 3 0 ∷ of_class 4 0 ∷ of_class 5 0 ∷ of_class 6 1 ∷ []) None
    ≡ codes "a 1 1 b 0/0\na 2 2 a 0/0\na 3 3 a 1/0\na 4 4 a 2/0\na 5 5 a 3/0\nd 6 1 b 0/0\nd 7 2 a 0/0\nd 8 3 a 1/0\nd 9 4 a 2/0\na 10 6 b 2/0\nd 11 6 b 2/0\nd 12 5 a 3/0\nend pushed 6 popped 6 empty 0 held 0 unsent 0\n"
unfolding digits
report-in_turn = refl

-- Two leaves by weight. The first has weight 3.
abbrev pub by_weight : Policy
by_weight = record in_turn {
  tree = inner (node (codes "root") stfq) (more (leaf (record (node (codes "a") fifo) { marks = record no_marks { weight = 3 } })) (more (leaf (node (codes "b") fifo)) none));
}

pub report-by_weight : report by_weight (Arrivals 4 ∷ Departures 4 ∷ Arrivals 1 ∷ Drain ∷ [])
    (of_class 1 0 ∷ of_class 2 0 ∷ of_class 3 1 ∷ of_class 4 0 ∷ of_class 5 1 ∷ []) None
    ≡ codes "a 1 1 a 0/0\na 2 2 a 500000/0\na 3 3 b 0/0\na 4 4 a 1000000/0\nd 5 1 a 0/0\nd 6 3 b 0/0\nd 7 2 a 500000/0\nd 8 4 a 1000000/0\na 9 5 b 1500000/0\nd 10 5 b 1500000/0\nend pushed 5 popped 5 empty 0 held 0 unsent 0\n"
unfolding digits
report-by_weight = refl

-- The same in version 2, with a limit of one packet at the first leaf. A packet is dropped, and its
-- flow's variables at the root are unchanged, so the next one gets the rank that the dropped one
-- would have got.
abbrev pub limited : Policy
limited = record by_weight {
  version = 2;
  tree = inner (node (codes "root") stfq) (more (leaf (record (node (codes "a") fifo) { marks = record no_marks { weight = 3 }; limits = at_most (Some 1) })) (more (leaf (node (codes "b") fifo)) none));
}

pub report-limited : report limited (Arrivals 3 ∷ Departures 1 ∷ Arrivals 1 ∷ Drain ∷ [])
    (of_class 1 0 ∷ of_class 2 0 ∷ of_class 3 1 ∷ of_class 4 0 ∷ of_class 5 1 ∷ []) None
    ≡ codes "a 1 1 a 0/0\nx 2 2 a\na 3 3 b 0/0\nd 4 1 a 0/0\na 5 4 a 500000/0\nd 6 3 b 0/0\nd 7 4 a 500000/0\nend pushed 3 popped 3 empty 0 held 0 unsent 1 dropped 1\n"
unfolding digits
report-limited = refl

-- one leaf with a limit of one packet
abbrev pub one_leaf_limited : Policy
one_leaf_limited = record {
  version = 2;
  tree = leaf (record (node (codes "root") fifo) { limits = at_most (Some 1) });
  classes = record { marks = no_marks; leaf = [] } ∷ [];
}

pub report-one_leaf_limited : report one_leaf_limited (Arrivals 2 ∷ Departures 3 ∷ []) two_packets None
    ≡ codes "a 1 1 root 0\nx 2 2 root\nd 3 1 root 0\ne 4\ne 5\nend pushed 1 popped 1 empty 2 held 0 unsent 0 dropped 1\n"
unfolding digits
report-one_leaf_limited = refl

-- version 1 shows no count of drops, and later versions do
pub drops_shown : map (λ v. shown_drops (record one_leaf_limited { version = v }) 7) (1 ∷ 2 ∷ 3 ∷ []) ≡ None ∷ Some 7 ∷ Some 7 ∷ []
drops_shown = refl

-- a dropped packet raises `now`, which ranks the next one
abbrev pub by_time_limited : Policy
by_time_limited = record one_leaf_limited { tree = leaf (record (node (codes "root") (ranked_by (variable Now))) { limits = at_most (Some 1) }) }

pub report-a_drop_raises_now : report by_time_limited (Arrivals 2 ∷ Departures 1 ∷ Arrivals 1 ∷ []) (packet 1 4 5 ∷ packet 2 4 9 ∷ packet 3 4 7 ∷ []) None
    ≡ codes "a 1 1 root 5\nx 2 2 root\nd 3 1 root 5\na 4 3 root 9\nend pushed 2 popped 1 empty 0 held 1 unsent 0 dropped 1\n"
unfolding digits
report-a_drop_raises_now = refl

-- ranks by a variable and the slack; a departure sets the variable to the rank taken plus the
-- weight
abbrev pub by_slack_and_weight : Program
by_slack_and_weight = record {
  keeps = counter ∷ [];
  eaches = [];
  push = set AimRank (two Add (variable (Keep 0)) (variable Slack)) ∷ [];
  pop = set (AimKeep 0) (two Add (variable Rank) (variable Weight)) ∷ [];
}

-- The root's steps read the marks of its child. The leaf's steps, at a push and at a pop, read the
-- marks of the packet's class, not those of the leaf.
abbrev pub marked : Policy
marked = record {
  version = 1;
  tree = inner (node (codes "root") strict) (more (leaf (record (node (codes "q") by_slack_and_weight) { marks = record { prio = 7; weight = 30; slack = 100 } })) none);
  classes = record { marks = record { prio = 2; weight = 3; slack = 10 }; leaf = 0 ∷ [] } ∷ [];
}

pub report-marks_at_a_leaf : report marked (Arrivals 1 ∷ Departures 1 ∷ Arrivals 1 ∷ []) two_packets None
    ≡ codes "a 1 1 q 7/10\nd 2 1 q 7/10\na 3 2 q 7/23\nend pushed 2 popped 1 empty 0 held 1 unsent 0\n"
unfolding digits
report-marks_at_a_leaf = refl

-- ---- limits of version 3
abbrev pub with_limits : Limits → FlowGroup → Program → Policy
with_limits limits group program = record one_leaf_limited {
  version = 3;
  tree = leaf (record (node (codes "root") program) { limits = limits; group = group });
}

-- 1,500 bytes may be queued: the second packet doesn't fit, and the third does
pub report-limited_bytes : report (with_limits (record no_limits { bytes = Some 1500 }) FiveTuple fifo) (Arrivals 3 ∷ []) (packet 1 1000 0 ∷ packet 2 501 0 ∷ packet 3 500 0 ∷ []) None
    ≡ codes "a 1 1 root 0\nx 2 2 root\na 3 3 root 0\nend pushed 2 popped 0 empty 0 held 2 unsent 0 dropped 1\n"
unfolding digits
report-limited_bytes = refl

-- Two limits on one leaf: the second packet would pass that on bytes, the fourth that on packets.
pub report-two_limits : report (with_limits (record { packets = Some 2; bytes = Some 1000; per_flow = None }) FiveTuple fifo) (Rest ∷ [])
    (packet 1 600 0 ∷ packet 2 600 0 ∷ packet 3 100 0 ∷ packet 4 100 0 ∷ []) None
    ≡ codes "a 1 1 root 0\nx 2 2 root\na 3 3 root 0\nx 4 4 root\nend pushed 2 popped 0 empty 0 held 2 unsent 0 dropped 2\n"
unfolding digits
report-two_limits = refl

abbrev pub from_source : ℕ → ℕ → ℕ → Packet
from_source n source sport = record (packet n 1500 0) { flow = record no_flow { source = source; sport = sport } }

-- With `flow by src`, two ports of one source are one flow. The flow has one set of variables, which
-- rank its packets, and one limit.
pub report-flow_by_source : report (with_limits (record no_limits { per_flow = Some 2 }) Source stfq) (Rest ∷ [])
    (from_source 1 1 5 ∷ from_source 2 1 6 ∷ from_source 3 1 7 ∷ from_source 4 2 5 ∷ []) None
    ≡ codes "a 1 1 root 0\na 2 2 root 1500000\nx 3 3 root\na 4 4 root 0\nend pushed 3 popped 0 empty 0 held 3 unsent 0 dropped 1\n"
unfolding digits
report-flow_by_source = refl

-- The limit of an inner node counts the packets of all leaves below it. The departure of the other
-- leaf's packet makes room.
abbrev pub limited_root : Policy
limited_root = record in_turn {
  version = 3;
  tree = inner (record (node (codes "root") rr) { limits = at_most (Some 2) }) (more (leaf (node (codes "a") fifo)) (more (leaf (node (codes "b") fifo)) none));
}

pub report-limited_root : report limited_root (Arrivals 3 ∷ Departures 1 ∷ Arrivals 1 ∷ []) (of_class 1 0 ∷ of_class 2 1 ∷ of_class 3 1 ∷ of_class 4 1 ∷ []) None
    ≡ codes "a 1 1 a 0/0\na 2 2 b 0/0\nx 3 3 b\nd 4 1 a 0/0\na 5 4 b 1/0\nend pushed 3 popped 1 empty 0 held 2 unsent 0 dropped 1\n"
unfolding digits
report-limited_root = refl
