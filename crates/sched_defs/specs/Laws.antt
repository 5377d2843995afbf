-- Consequences of the definitions of states and events.
use Rattle.std.specs.Prelude.{◌≡◌, ◌<◌, ◌≤◌, ◌↔◌, ◌⊎◌, ℕ, ◌+◌, ◌-◌, max, ◌==◌, Bool, false, nat_eq, IsSome, Option, None, Some, List, [], ◌∷◌, ◌++◌, length, replicate, ⊤}
use Rattle.std.specs.List.{AllByRecursion, IsDistinct, Contains}
use Rattle.tree_defs.specs.Tree.{Address, LeadsToLeaf}
use Rattle.tree_defs.specs.SourceTree.{size}
use Rattle.tree_defs.specs.Packets.{queue_at}
use Rattle.rank_defs.specs.Programs.{max_rank}
use Rattle.packet_defs.specs.declared.packet.Packet.{Packet}
use Rattle.policy_defs.specs.Policy.{Policy, no_limits, limits_at}
use Rattle.policy_defs.specs.Classic.{IsClassic}
use Rattle.policy_defs.specs.Accepted.{IsAccepted}
use Rattle.sched_defs.specs.SourceState.{Held, SourceState, Leaver, start, class_of, arrival_ranks, is_full, pushed, arrived, departed, leaver}
use Rattle.sched_defs.specs.Sound.{IsSound}
use Rattle.sched_defs.specs.Events.{Event, Arrive, Depart, Outcome, after, outcomes, pushed_in, popped_in, dropped_in, empty_in, asked_in, CanArrive, CanMake}
use Rattle.sched_defs.specs.Script.{Step, Drain, step_events, left_by, course}
use Rattle.sched_defs.specs.declared.ending.Ending.TheVariants.{Whole}
use Rattle.sched_defs.specs.Numbered.{CanBeSent, departures_asked}
use Rattle.sched_defs.specs.Faults.{FaultAt}
use Rattle.sched_defs.specs.Link.{Sent, send_due, link_turn, link_course}
use Rattle.sched_defs.specs.declared.rate.LinkRate.{LinkRate}

-- ---- sound states
abbrev pub StartIsSound : Type 0
StartIsSound = (policy : Policy) → IsAccepted policy → IsSound policy (start policy)

abbrev pub ArrivalsKeepSound : Type 0
ArrivalsKeepSound = (policy : Policy) (p : Packet) (s : SourceState) → IsAccepted policy → IsSound policy s → CanArrive policy s p → IsSound policy (arrived policy p s)

abbrev pub DeparturesKeepSound : Type 0
DeparturesKeepSound = (policy : Policy) (s : SourceState) → IsAccepted policy → IsSound policy s → IsSound policy (departed policy s)

abbrev pub EventsKeepSound : Type 0
EventsKeepSound = (policy : Policy) (events : List Event) (s : SourceState) → IsAccepted policy → IsSound policy s → CanMake policy events s → IsSound policy (after policy events s)

-- ---- the packets of a sound state
-- these are the numbers of the queued packets, each once
pub record AreNumbersOf (held : Held) (numbers : List ℕ) : Type 0 where
  pub distinct : IsDistinct nat_eq numbers
  pub each : (n : ℕ) → Contains numbers n ↔ IsSome (held n)

-- as many packets are queued as are in the leaves
abbrev pub HeldStandInLeaves : Type 0
HeldStandInLeaves = (policy : Policy) (s : SourceState) (numbers : List ℕ) → IsSound policy s → AreNumbersOf s.held numbers → length numbers ≡ size s.tree

abbrev pub PushesAddOne : Type 0
PushesAddOne = (policy : Policy) (p : Packet) (s : SourceState) → IsAccepted policy → IsSound policy s → CanArrive policy s p → size (pushed policy p s).tree ≡ size s.tree + 1

abbrev pub DeparturesTakeOne : Type 0
DeparturesTakeOne = (policy : Policy) (s : SourceState) → IsSound policy s → size (departed policy s).tree ≡ size s.tree - 1

-- each packet that was queued or pushed is still queued or has departed
abbrev pub NoneIsLost : Type 0
NoneIsLost =
    (policy : Policy) (events : List Event) (s : SourceState) → IsAccepted policy → IsSound policy s → CanMake policy events s
    → size (after policy events s).tree + popped_in (outcomes policy events s) ≡ size s.tree + pushed_in (outcomes policy events s)

-- if no node has a limit, nothing is dropped
abbrev pub NothingIsDroppedWithoutLimits : Type 0
NothingIsDroppedWithoutLimits = (policy : Policy) (events : List Event) (s : SourceState) → ((a : Address) → limits_at policy a ≡ no_limits) → dropped_in (outcomes policy events s) ≡ 0

-- there is a limit, and it is reached
abbrev pub is_reached : Option ℕ → ℕ → Bool
is_reached None n = false
is_reached (Some limit) n = limit == n

-- with a policy of version 1 or 2, a packet is dropped exactly if its leaf has a limit that is
-- reached
abbrev pub ClassicLimitsFillLeaves : Type 0
ClassicLimitsFillLeaves =
    (policy : Policy) (p : Packet) (s : SourceState) → IsClassic policy → IsAccepted policy → IsSound policy s → CanArrive policy s p
    → is_full policy p s ≡ is_reached (limits_at policy (class_of policy p).leaf).packets (length (queue_at s.tree (class_of policy p).leaf))

-- ---- arrivals and departures
-- a rank in range for each node on the path
pub record AreRanksTo (digits ranks : List ℕ) : Type 0 where
  pub count : length ranks ≡ length digits + 1
  pub low : AllByRecursion (λ r. r ≤ max_rank) ranks

-- a packet arrives at a leaf, with a rank in range at each node on its path
pub record ArrivesAtALeaf (policy : Policy) (p : Packet) (s : SourceState) : Type 0 where
  pub leaf_address : LeadsToLeaf s.tree (class_of policy p).leaf
  pub ranks : AreRanksTo (class_of policy p).leaf (arrival_ranks policy p s)

abbrev pub ArrivalsComeToLeaves : Type 0
ArrivalsComeToLeaves = (policy : Policy) (p : Packet) (s : SourceState) → IsAccepted policy → IsSound policy s → CanArrive policy s p → ArrivesAtALeaf policy p s

abbrev pub NothingLeavesWhereNothingIsHeld : Type 0
NothingLeavesWhereNothingIsHeld = (policy : Policy) (s : SourceState) → IsSound policy s → (leaver s ≡ None) ↔ (size s.tree ≡ 0)

-- the packet is queued under its number, and departs from the leaf of its class with a rank in
-- range at each node on its path
pub record LeavesItsLeaf (policy : Policy) (s : SourceState) (l : Leaver) : Type 0 where
  pub held : s.held l.packet.number ≡ Some l.packet
  pub leaf_is : l.digits ≡ (class_of policy l.packet).leaf
  pub leaf_address : LeadsToLeaf s.tree l.digits
  pub ranks : AreRanksTo l.digits l.ranks

abbrev pub PacketsLeaveTheirLeaves : Type 0
PacketsLeaveTheirLeaves = (policy : Policy) (s : SourceState) (l : Leaver) → IsSound policy s → leaver s ≡ Some l → LeavesItsLeaf policy s l

-- ---- events in a row
-- events, followed by more of them
pub record EventsJoin : Type 0 where
  pub states : (policy : Policy) (es fs : List Event) (s : SourceState) → after policy (es ++ fs) s ≡ after policy fs (after policy es s)
  pub told : (policy : Policy) (es fs : List Event) (s : SourceState) → outcomes policy (es ++ fs) s ≡ outcomes policy es s ++ outcomes policy fs (after policy es s)
  pub possible : (policy : Policy) (es fs : List Event) (s : SourceState) → CanMake policy (es ++ fs) s ↔ CanMake policy es s × CanMake policy fs (after policy es s)

-- departures can always be made
abbrev pub DeparturesCanBeMade : Type 0
DeparturesCanBeMade = (policy : Policy) (n : ℕ) (start : Option ℕ) (s : SourceState) → CanMake policy (replicate n (Depart start)) s

-- ---- scripts
-- the events of a script over packets in the order of a capture can be made
abbrev pub CoursesCanBeMade : Type 0
CoursesCanBeMade =
    (policy : Policy) (steps : List Step) (packets : List Packet) (fault : Option FaultAt) (first event : ℕ) (s : SourceState) → CanBeSent policy first packets s
    → CanMake policy (course policy steps packets fault s event).events s

-- At most as many packets are pushed and dropped as there are. `drain` asks only for packets that
-- were queued or pushed.
pub record IsCourseShort (steps : List Step) (packets : List Packet) (s : SourceState) (os : List Outcome) : Type 0 where
  pub arrivals : pushed_in os + dropped_in os ≤ length packets
  pub departures : asked_in os ≤ departures_asked steps + size s.tree + pushed_in os

abbrev pub CoursesAreShort : Type 0
CoursesAreShort =
    (policy : Policy) (steps : List Step) (packets : List Packet) (fault : Option FaultAt) (first event : ℕ) (s : SourceState) → IsAccepted policy → IsSound policy s → CanBeSent policy first packets s
    → IsCourseShort steps packets s (outcomes policy (course policy steps packets fault s event).events s)

-- no packet is in the tree, and none is queued under any number
pub record HoldsNothing (s : SourceState) : Type 0 where
  pub tree : size s.tree ≡ 0
  pub held : (n : ℕ) → s.held n ≡ None

-- these events take each queued packet, no departure finds nothing, and no packet is queued after
-- them
pub record IsDrained (policy : Policy) (events : List Event) (s : SourceState) : Type 0 where
  pub popped : popped_in (outcomes policy events s) ≡ size s.tree
  pub empty : empty_in (outcomes policy events s) ≡ 0
  pub nothing : HoldsNothing (after policy events s)

abbrev pub DrainsLeaveNothing : Type 0
DrainsLeaveNothing = (policy : Policy) (packets : List Packet) (s : SourceState) → IsAccepted policy → IsSound policy s → IsDrained policy (step_events Drain packets s) s

-- the same for each `drain` of a script, in the state in which it begins
abbrev pub IsEachDrained : Policy → List Step → List Packet → SourceState → Type 0
IsEachDrained policy [] packets s = ⊤
IsEachDrained policy (step ∷ steps) packets s =
    (step ≡ Drain → IsDrained policy (step_events step packets s) s) × IsEachDrained policy steps (left_by step packets) (after policy (step_events step packets s) s)

abbrev pub EachDrainLeavesNothing : Type 0
EachDrainLeavesNothing =
    (policy : Policy) (steps : List Step) (packets : List Packet) (first : ℕ) (s : SourceState) → IsAccepted policy → IsSound policy s → CanBeSent policy first packets s
    → IsEachDrained policy steps packets s

-- a run that ends whole, after a script whose last step is `drain`, leaves no packet queued
abbrev pub LastDrainsLeaveNothing : Type 0
LastDrainsLeaveNothing =
    (policy : Policy) (steps : List Step) (packets : List Packet) (fault : Option FaultAt) (first event unsent : ℕ) (s : SourceState) → IsAccepted policy → IsSound policy s → CanBeSent policy first packets s
    → (course policy (steps ++ Drain ∷ []) packets fault s event).ending ≡ Whole unsent
    → HoldsNothing (after policy (course policy (steps ++ Drain ∷ []) packets fault s event).events s)

-- ---- links
-- the events that a link paces over packets in the order of a capture can be made
abbrev pub LinksCanRun : Type 0
LinksCanRun =
    (policy : Policy) (rate : LinkRate) (packets : List Packet) (fault : Option FaultAt) (first : ℕ) (s : SourceState) (free : ℕ) → CanBeSent policy first packets s
    → CanMake policy (link_course policy rate packets fault s free).events s

-- each packet is pushed or dropped, each departure takes a packet, and after a whole capture none
-- is queued
pub record IsLinkRun (policy : Policy) (packets : List Packet) (fault : Option FaultAt) (s : SourceState) (events : List Event) : Type 0 where
  pub arrivals : pushed_in (outcomes policy events s) + dropped_in (outcomes policy events s) ≡ length packets
  pub empty : empty_in (outcomes policy events s) ≡ 0
  pub drained : fault ≡ None → size (after policy events s).tree ≡ 0

abbrev pub LinksSendAll : Type 0
LinksSendAll =
    (policy : Policy) (rate : LinkRate) → IsAccepted policy → (packets : List Packet) (fault : Option FaultAt) (first : ℕ) (s : SourceState) (free : ℕ) → IsSound policy s → CanBeSent policy first packets s
    → IsLinkRun policy packets fault s (link_course policy rate packets fault s free).events

-- the event is a departure that starts before this timestamp
abbrev pub StartsBefore : ℕ → Event → Type 0
StartsBefore moment (Depart (Some start)) = start < moment
StartsBefore moment (Depart None) = ⊥
StartsBefore moment (Arrive p) = ⊥

-- Each departure starts before this timestamp. They stop only if no packet is queued or the link
-- isn't free before the timestamp.
pub record IsSentBefore (moment : ℕ) (sent : Sent) : Type 0 where
  pub early : AllByRecursion (StartsBefore moment) sent.events
  pub stops : (size sent.state.tree ≡ 0) ⊎ (moment ≤ sent.free)

-- before a timestamp, a link sends the packets that are due
abbrev pub LinksSendWhatIsDue : Type 0
LinksSendWhatIsDue = (policy : Policy) (rate : LinkRate) (moment : ℕ) (s : SourceState) (free : ℕ) → IsAccepted policy → IsSound policy s → IsSentBefore moment (send_due policy rate moment s free)

-- the same before each packet of a run, at its timestamp, or at the latest one so far
abbrev pub IsSentBeforeEach : Policy → LinkRate → List Packet → SourceState → ℕ → Type 0
IsSentBeforeEach policy rate [] s free = ⊤
IsSentBeforeEach policy rate (p ∷ packets) s free =
    let turn = link_turn policy rate p s free in
    IsSentBefore (max s.now p.moment) (send_due policy rate (max s.now p.moment) s free) × IsSentBeforeEach policy rate packets turn.state turn.free

abbrev pub LinksSendBeforeEach : Type 0
LinksSendBeforeEach =
    (policy : Policy) (rate : LinkRate) (packets : List Packet) (first : ℕ) (s : SourceState) (free : ℕ) → IsAccepted policy → IsSound policy s → CanBeSent policy first packets s
    → IsSentBeforeEach policy rate packets s free
