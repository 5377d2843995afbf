-- The events of a generated load, and the sum over its departures.
use Rattle.std.specs.Prelude.{◌≡◌, ◌≤◌, refl, ℕ, zero, suc, ◌+◌, ◌*◌, ◌%◌, nat_le, Bool, if◌then◌else◌, Option, None, List, [], ◌∷◌, ◌++◌, map, replicate}
use Rattle.tree_defs.specs.SourceTree.{size}
use Rattle.packet_defs.specs.declared.packet.Packet.{Packet}
use Rattle.policy_defs.specs.Policy.{Policy, one_leaf}
use Rattle.policy_defs.specs.Accepted.{IsAccepted}
use Rattle.events_core.specs.Draws.{next_draw, drawn}
use Rattle.sched_defs.specs.SourceState.{SourceState, start}
use Rattle.sched_defs.specs.Events.{Event, Arrive, Depart, Outcome, Departed, Empty, after, outcomes, pushed_in, popped_in, empty_in, CanMake}
use Rattle.sched_defs.specs.Laws.{HoldsNothing}
use Rattle.sched_defs.specs.Rows.{packet}
use Rattle.sched_core.specs.declared.scheduler.Scheduler.{Ghosts}
use Rattle.sched_run.specs.declared.drawing.Drawing.{Drawing}
use Rattle.sched_run.specs.declared.tally.Totals.{Totals}
use Rattle.sched_run.specs.Drawings.{HasLoadClasses, most_load}
use Rattle.sched_run.specs.Played.{HasMade}
use Rattle.sched_run.specs.Recording.{Recordings}

-- the generator's state after n draws
abbrev pub behind : ℕ → ℕ → ℕ
behind zero x = x
behind (suc n) x = next_draw (behind n x)

-- two draws out of five make a departure
abbrev pub departs : ℕ → Bool
departs x = nat_le 3 (drawn (next_draw x) % 5)

-- The next four draws give a packet's class, its length from 64 to 1,500 bytes, its flow by the
-- source address, and its distance in nanoseconds from the packet before.
abbrev pub packet_of : Drawing → Packet
packet_of d = record {
  number = d.number;
  class = drawn (behind 2 d.load) % 8;
  len = 64 + drawn (behind 3 d.load) % 1437;
  moment = d.moment + drawn (behind 5 d.load) % 2000;
  flow = record { version = 4; source = drawn (behind 4 d.load) % 16; target = 0; proto = 0; sport = 0; dport = 0 };
}

-- the drawn event, and the drawing after it
abbrev pub load_event : Drawing → Event
load_event d = if departs d.load then Depart None else Arrive (packet_of d)

abbrev pub load_next : Drawing → Drawing
load_next d =
    if departs d.load then record { load = next_draw d.load; number = d.number; moment = d.moment }
    else record { load = behind 5 d.load; number = d.number + 1; moment = d.moment + drawn (behind 5 d.load) % 2000 }

-- the next n events
abbrev pub load_events : ℕ → Drawing → List Event
load_events zero d = []
load_events (suc n) d = load_event d ∷ load_events n (load_next d)

-- packets are numbered from 1, and timestamps (`moment`) start at 0
abbrev pub first_drawing : ℕ → Drawing
first_drawing seed = record { load = seed; number = 1; moment = 0 }

-- the events of a load from a state: `count` events drawn from a seed, then one departure for each
-- queued packet
abbrev pub load_run : Policy → ℕ → ℕ → SourceState → List Event
load_run policy seed count s =
    load_events count (first_drawing seed) ++ replicate (size (after policy (load_events count (first_drawing seed)) s).tree) (Depart None)

-- ---- the sum of departures
-- the numbers of departed packets, folded into 32 bits
abbrev pub sum_with : ℕ → Outcome → ℕ
sum_with sum (Departed p a ranks start) = (sum * 31 + p.number) % 4294967296
sum_with sum o = sum

abbrev pub sum_of : ℕ → List Outcome → ℕ
sum_of sum [] = sum
sum_of sum (o ∷ os) = sum_of (sum_with sum o) os

-- ---- a load that was made
-- all events of a load were made, recorded and counted
pub record MakesLoad {C U W : Type 0} (S : Ghosts C U) (R : Recordings W) (policy : Policy) (seed count : ℕ) (from : SourceState)
    (c : C) (u : U) (w : W) (a : Option (List ℕ)) (c' : C) (u' : U) (w' : W) (a' : Option (List ℕ)) (t : Totals) : Type 0 where
  pub leaves : HasMade S policy (load_run policy seed count from) from c u c' u'
  pub recorded : R.records w a policy 1 (outcomes policy (load_run policy seed count from) from) w' a'
  pub pushed : t.pushed ≡ pushed_in (outcomes policy (load_run policy seed count from) from)
  pub popped : t.popped ≡ popped_in (outcomes policy (load_run policy seed count from) from)
  pub empty : t.empty ≡ empty_in (outcomes policy (load_run policy seed count from) from)

-- ---- what a load leaves
-- The events of a load from the start can be made. After them no packet is queued, and as many
-- packets were popped as were pushed. Every departure that found no packet is a drawn one.
pub record LeavesNothing (policy : Policy) (seed count : ℕ) : Type 0 where
  pub made : CanMake policy (load_run policy seed count (start policy)) (start policy)
  pub nothing : HoldsNothing (after policy (load_run policy seed count (start policy)) (start policy))
  pub balance : popped_in (outcomes policy (load_run policy seed count (start policy)) (start policy)) ≡ pushed_in (outcomes policy (load_run policy seed count (start policy)) (start policy))
  pub empty : empty_in (outcomes policy (load_run policy seed count (start policy)) (start policy)) ≡ empty_in (outcomes policy (load_events count (first_drawing seed)) (start policy))

abbrev pub LoadsLeaveNothing : Type 0
LoadsLeaveNothing = (policy : Policy) (seed count : ℕ) → IsAccepted policy → HasLoadClasses policy → count ≤ most_load → LeavesNothing policy seed count

-- ---- worked examples
-- a packet of a load
abbrev load_packet : ℕ → ℕ → ℕ → ℕ → ℕ → Packet
load_packet n c length_in_bytes source_address moment_in_ns = record {
  number = n;
  class = c;
  len = length_in_bytes;
  moment = moment_in_ns;
  flow = record { version = 4; source = source_address; target = 0; proto = 0; sport = 0; dport = 0 };
}

-- another order of draws, numbers used up by departures, or timestamps that don't add up would give
-- other packets
events_of_seed_2 : load_events 5 (first_drawing 2) ≡ Arrive (load_packet 1 2 388 8 295) ∷ Depart None ∷ Depart None ∷ Depart None ∷ Arrive (load_packet 2 2 1272 2 2169) ∷ []
events_of_seed_2 = refl

packets_of_seed_4 : load_events 2 (first_drawing 4) ≡ Arrive (load_packet 1 4 470 11 465) ∷ Arrive (load_packet 2 1 1098 2 681) ∷ []
packets_of_seed_4 = refl

-- one packet is queued after the five events, and departs
run_of_seed_2 : load_run one_leaf 2 5 (start one_leaf) ≡ load_events 5 (first_drawing 2) ++ Depart None ∷ []
run_of_seed_2 = refl

-- the order of departures matters, other outcomes don't, and the sum stays below 2^32
sums : map (λ s. sum_of s (Departed (packet 2 64 0) [] [] None ∷ Empty ∷ Departed (packet 1 64 0) [] [] None ∷ [])) (0 ∷ 4294967295 ∷ []) ≡ 63 ∷ 4294966398 ∷ []
sums = refl
