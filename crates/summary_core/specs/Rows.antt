-- Examples of sums.
use Rattle.std.specs.Prelude.{◌≡◌, refl, true, false, None, Some, map, List, [], ◌∷◌}
use Rattle.sched_defs.specs.SendTime.{plain_rate}
use Rattle.sched_defs.specs.Rows.{packet}
use Rattle.sched_defs.specs.Events.{Outcome, Arrived, Departed, Dropped, Empty}
use Rattle.sched_defs.specs.declared.rate.LinkRate.{LinkRate}
use Rattle.summary_core.specs.Counting.{no_counts, throughput_of}
use Rattle.summary_core.specs.Summing.{class_events, no_timestamps, events_by, counted, any_class, is_class, is_at_leaf, delays_in}

-- a link that sends one byte per nanosecond
abbrev byte_a_nanosecond : LinkRate
byte_a_nanosecond = plain_rate 1000000000

-- Two packets arrive, a third is dropped, and both depart, with delays of 100 and 450 ns.
abbrev two_sent : List Outcome
two_sent = Arrived (packet 1 100 0) [] (0 ∷ []) ∷ Arrived (packet 2 50 50) [] (0 ∷ []) ∷ Dropped (packet 3 70 60) []
    ∷ Departed (packet 1 100 0) [] (0 ∷ []) (Some 100) ∷ Empty ∷ Departed (packet 2 50 50) [] (0 ∷ []) (Some 500) ∷ []

sums-two_sent : counted any_class no_counts (class_events byte_a_nanosecond two_sent) ≡ record {
  arrived = 2;
  departed = 2;
  dropped = 1;
  bytes = 150;
  queued = 0;
  queued_bytes = 0;
  most_queued = 2;
  most_queued_bytes = 150;
  first = Some 0;
  finish = 550;
  delays = 2;
  delay_sum = 550;
  last = Some 450;
  jitter_sum = 350;
}
sums-two_sent = refl

delays-two_sent : delays_in 0 (class_events byte_a_nanosecond two_sent) ≡ 100 ∷ 450 ∷ []
delays-two_sent = refl

-- the stored timestamps are the packets' own
events-two_sent : events_by byte_a_nanosecond no_timestamps two_sent ≡ class_events byte_a_nanosecond two_sent
events-two_sent = refl

-- another class has no packet
sums-other_class : counted (is_class 1) no_counts (class_events byte_a_nanosecond two_sent) ≡ no_counts
sums-other_class = refl

-- 150 bytes in 550 ns, rounded down
throughput-two_sent : throughput_of (counted any_class no_counts (class_events byte_a_nanosecond two_sent)) ≡ Some 272727272
throughput-two_sent = refl

-- a script gives no times, so there is no delay and no throughput
script-no_times : map (λ os. throughput_of (counted any_class no_counts (class_events byte_a_nanosecond os))) ((Arrived (packet 1 100 0) [] (0 ∷ []) ∷ Departed (packet 1 100 0) [] (0 ∷ []) None ∷ []) ∷ []) ≡ None ∷ []
script-no_times = refl

-- the second class has the leaf with index 5
classes-of_a_leaf : map (is_at_leaf (3 ∷ 5 ∷ []) 5) (0 ∷ 1 ∷ 2 ∷ []) ≡ false ∷ true ∷ false ∷ []
classes-of_a_leaf = refl
