-- The outcomes of a run as JSON lines.
use Rattle.std.specs.Prelude.{◌≤◌, ℕ, ◌+◌, ◌-◌, ◌^◌, min, Option, None, Some, List, [], ◌∷◌, ◌++◌, codes}
use Rattle.policy_defs.specs.Policy.{Policy, name_at}
use Rattle.sched_defs.specs.declared.rate.LinkRate.{LinkRate}
use Rattle.sched_defs.specs.declared.ending.Ending.{Ending}
use Rattle.sched_defs.specs.declared.ending.Ending.TheVariants.{Whole, BadCapture, PastLast}
use Rattle.sched_defs.specs.SendTime.{send_time}
use Rattle.sched_defs.specs.Events.{Outcome, Arrived, Departed, Dropped, Empty, pushed_in, popped_in, dropped_in, empty_in}
use Rattle.sched_defs.specs.Report.{past_last}
use Rattle.event_json.specs.Objects.{arrive_line, depart_line, drop_line, empty_line, end_line, fault_line}
use Rattle.event_json.specs.declared.counts.Counts.{Counts}
use Rattle.event_json.specs.declared.times.Times.{Times}

-- the greatest time of 128 bits, in nanoseconds
abbrev pub most_time : ℕ
most_time = 2 ^ 128 - 1

-- The times of a packet of this length, if a link of this rate paces its departure. A finish of
-- more than 128 bits is shown as the greatest time.
abbrev pub times_of : Option LinkRate → ℕ → Option ℕ → Option Times
times_of None len start = None
times_of (Some rate) len None = None
times_of (Some rate) len (Some start) = Some (record { start = start; finish = min (start + send_time len rate) most_time })

-- the line for the outcome of the event with this number
abbrev pub json_line : Option LinkRate → Policy → ℕ → Outcome → List ℕ
json_line rate policy event (Arrived p a ranks) = arrive_line event p.number (name_at policy a) p.class p.len p.moment ranks
json_line rate policy event (Departed p a ranks start) = depart_line event p.number (name_at policy a) p.class p.len ranks (times_of rate p.len start)
json_line rate policy event (Dropped p a) = drop_line event p.number (name_at policy a) p.class p.len p.moment
json_line rate policy event Empty = empty_line event

-- the lines for outcomes, the first of which is of the event with this number
abbrev pub json_from : Option LinkRate → Policy → ℕ → List Outcome → List ℕ
json_from rate policy event [] = []
json_from rate policy event (o ∷ os) = json_line rate policy event o ++ json_from rate policy (event + 1) os

-- the greatest count; a count that reaches it stays there
abbrev pub most_count : ℕ
most_count = 2 ^ 64 - 1

abbrev pub capped : ℕ → ℕ
capped n = min n most_count

-- the number of outcomes of each kind
abbrev pub counts_in : List Outcome → Counts
counts_in os = record { arrived = capped (pushed_in os); departed = capped (popped_in os); dropped = capped (dropped_in os); empty = capped (empty_in os) }

-- no count is greater
abbrev pub AreCapped : Counts → Type 0
AreCapped c = (c.arrived ≤ most_count) × (c.departed ≤ most_count) × (c.dropped ≤ most_count) × (c.empty ≤ most_count)

-- the last line after outcomes of these numbers; a packet that arrived and hasn't departed is
-- queued
abbrev pub json_end : Counts → Ending → List ℕ
json_end c (Whole unread) = end_line c.arrived c.departed c.dropped c.empty (c.arrived - c.departed) unread
json_end c (BadCapture code place) = fault_line (codes "capture") code place
json_end c (PastLast event) = fault_line (codes "script") past_last event

-- the lines of a run that begins with no packet queued
abbrev pub json_text : Option LinkRate → Policy → List Outcome → Ending → List ℕ
json_text rate policy os ending = json_from rate policy 1 os ++ json_end (counts_in os) ending
