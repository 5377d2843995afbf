-- A link that sends one packet after another, at its rate: when departures start, and the run that
-- the link paces.
use Rattle.std.specs.Prelude.{ℕ, zero, suc, ◌+◌, ◌==◌, max, nat_lt, if◌then◌else◌, Bool, true, Option, None, Some, List, [], ◌∷◌, ◌++◌}
use Rattle.std.specs.Option.{option_map_or}
use Rattle.tree_defs.specs.SourceTree.{size}
use Rattle.packet_defs.specs.declared.packet.Packet.{Packet}
use Rattle.policy_defs.specs.Policy.{Policy}
use Rattle.sched_defs.specs.SendTime.{send_time}
use Rattle.sched_defs.specs.SourceState.{SourceState, arrived, departed, leaver}
use Rattle.sched_defs.specs.Events.{Event, Arrive, Depart}
use Rattle.sched_defs.specs.Faults.{FaultAt}
use Rattle.sched_defs.specs.declared.ending.Ending.TheVariants.{Whole, BadCapture}
use Rattle.sched_defs.specs.Script.{Course, behind}
use Rattle.sched_defs.specs.declared.rate.LinkRate.{LinkRate}

-- the events so far, the state after them, and the timestamp from which the link is free
pub record Sent : Type 0 where
  pub events : List Event
  pub state : SourceState
  pub free : ℕ

abbrev pub sent_nothing : SourceState → ℕ → Sent
sent_nothing s free = record { events = []; state = s; free = free }

abbrev pub sent_first : Event → Sent → Sent
sent_first e sent = record sent { events = e ∷ sent.events }

-- whether a departure at this timestamp starts before `until`, if there is an `until`
abbrev pub is_due : Option ℕ → ℕ → Bool
is_due None free = true
is_due (Some until) free = nat_lt free until

-- At most N departures in a row, as long as a packet is queued and, given a timestamp, the link is
-- free before it. Each departure starts as soon as the link is free. The link is free again when
-- the packet is sent.
abbrev pub send_until : Policy → LinkRate → Option ℕ → ℕ → SourceState → ℕ → Sent
send_until policy rate until zero s free = sent_nothing s free
send_until policy rate until (suc n) s free =
    if is_due until free then option_map_or (λ l. sent_first (Depart (Some free)) (send_until policy rate until n (departed policy s) (free + send_time l.packet.len rate))) (leaver s) (sent_nothing s free)
    else sent_nothing s free

-- the departures that are due before a timestamp; `send_all` sends every queued packet
abbrev pub send_due : Policy → LinkRate → ℕ → SourceState → ℕ → Sent
send_due policy rate moment s free = send_until policy rate (Some moment) (size s.tree) s free

abbrev pub send_all : Policy → LinkRate → SourceState → ℕ → Sent
send_all policy rate s free = send_until policy rate None (size s.tree) s free

-- an idle link is free from the arrival of the next packet on
abbrev pub free_for : SourceState → ℕ → ℕ → ℕ
free_for s moment free = if size s.tree == 0 then max free moment else free

-- The departures that are due before a packet's timestamp start, and then the packet arrives. If no
-- packet is queued then, the link was idle.
abbrev pub link_turn : Policy → LinkRate → Packet → SourceState → ℕ → Sent
link_turn policy rate p s free =
    let moment = max s.now p.moment in
    let due = send_due policy rate moment s free in
    record { events = due.events ++ Arrive p ∷ []; state = arrived policy p due.state; free = free_for due.state moment due.free }

-- The packets arrive in turn. After the last one, every queued packet is sent. A fault of the
-- capture ends the run where it is met.
abbrev pub link_course : Policy → LinkRate → List Packet → Option FaultAt → SourceState → ℕ → Course
link_course policy rate [] None s free = record { events = (send_all policy rate s free).events; ending = Whole 0 }
link_course policy rate [] (Some fault) s free = record { events = []; ending = BadCapture fault.code fault.place }
link_course policy rate (p ∷ packets) fault s free =
    let turn = link_turn policy rate p s free in
    behind turn.events (link_course policy rate packets fault turn.state turn.free)
