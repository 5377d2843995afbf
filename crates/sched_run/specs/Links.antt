-- The results of a link's consecutive departures and arrivals.
use Rattle.std.specs.Prelude.{◌≡◌, ◌≤◌, ◌<◌, ◌^◌, ◌+◌, ◌*◌, ℕ, Bool, true, false, not, Option, is_some, List, length, if◌then◌else◌, Result, IfSome, IfOk, OnOk, OnErr}
use Rattle.outside_core.specs.declared.stop.Stop.{Stop}
use Rattle.tree_defs.specs.SourceTree.{size}
use Rattle.pcap_defs.specs.Record.{most_captured}
use Rattle.packet_defs.specs.declared.packet.Packet.{Packet}
use Rattle.policy_defs.specs.Policy.{Policy}
use Rattle.sched_defs.specs.SourceState.{SourceState}
use Rattle.sched_defs.specs.Events.{Event}
use Rattle.sched_defs.specs.Link.{Sent}
use Rattle.sched_defs.specs.Numbered.{IsSendable, IsHeldBelow}
use Rattle.sched_defs.specs.declared.ending.Ending.{Ending}
use Rattle.sched_core.specs.declared.scheduler.Scheduler.{Ghosts}
use Rattle.sched_defs.specs.SendTime.{IsRate}
use Rattle.sched_defs.specs.declared.rate.LinkRate.{LinkRate}
use Rattle.sched_run.specs.declared.run.Run.{Run}
use Rattle.sched_run.specs.declared.tally.Tally.{Tally}
use Rattle.sched_run.specs.Frames.{HasRoomForOne}
use Rattle.sched_run.specs.Stages.{Stage, FromEach, Makes, MakesLast, StopsLast}
use Rattle.sched_run.specs.Steps.{IsNoPastLast}
use Rattle.sched_run.specs.Turns.{AreFirst}
use Rattle.sched_run.specs.Recording.{Recordings}

-- the events that were to be made, and the timestamp from which the link is free after them
pub record IsSent (events : List Event) (free : ℕ) (sent : Sent) : Type 0 where
  pub are : events ≡ sent.events
  pub is_free : free ≡ sent.free

-- all of these events were made
pub record Sends {C U W : Type 0} (S : Ghosts C U) (R : Recordings W) (policy : Policy) (sent : SourceState → Sent) (free : ℕ) (old new : Stage C U W) : Type 0 where
  pub events : List Event
  pub made : Makes S R policy events old new
  pub told : FromEach S policy old (λ s. IsSent events free (sent s))

-- a prefix of these events was made
pub record SendsAmid {C U W : Type 0} (S : Ghosts C U) (R : Recordings W) (over : W → Bool) (policy : Policy) (sent : SourceState → Sent) (old : Stage C U W) (c : C) (u : U) (written : Option (List ℕ)) : Type 0 where
  pub events : List Event
  pub stop : StopsLast S R over policy events old c u written
  pub first : FromEach S policy old (λ s. AreFirst events (sent s).events)

-- a prefix of these events was made; after its last event nothing more can be recorded
pub record SendsFirst {C U W : Type 0} (S : Ghosts C U) (R : Recordings W) (over : W → Bool) (policy : Policy) (sent : SourceState → Sent) (old new : Stage C U W) : Type 0 where
  pub events : List Event
  pub made : MakesLast S R over policy events old new
  pub first : FromEach S policy old (λ s. AreFirst events (sent s).events)

-- either all of them were made, or a prefix because nothing more can be recorded
abbrev pub SendsUnless : {C U W : Type 0} → Bool → Ghosts C U → Recordings W → (W → Bool) → Policy → (SourceState → Sent) → ℕ → Stage C U W → Stage C U W → Type 0
SendsUnless false S R over policy sent free old new = Sends S R policy sent free old new
SendsUnless true S R over policy sent free old new = SendsFirst S R over policy sent old new

-- the timestamps of packets are below 2^64, and each departure takes at most 2^62 nanoseconds
abbrev pub IsEarly : ℕ → Tally → Type 0
IsEarly free tally = free ≤ tally.asked * 2 ^ 62 + 2 ^ 64

-- the numbers of queued packets have a bound, and the counts have room for departures of all of
-- them
pub record CanSend (tally : Tally) (s : SourceState) : Type 0 where
  pub number : ℕ
  pub below : IsHeldBelow number s.held
  pub few : tally.asked + size s.tree ≤ 2 ^ 34

-- the counts have room for these departures
pub record HasRoomToSend (departures : ℕ) (tally : Tally) : Type 0 where
  pub departures_fit : departures < 2 ^ 60 + tally.asked
  pub few_asked : tally.asked ≤ 2 ^ 34
  pub few_came : tally.came ≤ 2 ^ 32

-- More can be recorded, the counts have room for the departures of all queued packets, the rate is in
-- range, and the link is free early enough.
pub record IsPaced {C U N W : Type 0} (S : Ghosts C U) (over : W → Bool) (run : Run C N W) (free : ℕ) (speed : LinkRate) : Type 0 where
  pub going : over run.recorder ≡ false
  pub counts : HasRoomToSend (S.departures run.scheduler) run.tally
  pub rate : IsRate speed
  pub early : IsEarly free run.tally

-- unless the call failed, its answer is whether nothing more can be recorded, and the link is free
-- early enough
pub record Paces {C N W : Type 0} (ended : W → Bool) (result : Result Bool Stop) (run : Run C N W) (free : ℕ) : Type 0 where
  pub over : IfOk result (λ is. ended run.recorder ≡ is)
  pub early : OnOk result (IsEarly free run.tally)

-- A packet can arrive with these captured bytes: it can be sent, and its bytes can be recorded.
pub record CanCome (policy : Policy) (p : Packet) (captured : List ℕ) : Type 0 where
  pub sendable : IsSendable policy p
  pub short : length captured ≤ most_captured

-- more can be recorded as above, and the counts have room for an arrival after the departures
pub record IsPacedForOne {C U N W : Type 0} (S : Ghosts C U) (over : W → Bool) (run : Run C N W) (free : ℕ) (speed : LinkRate) : Type 0 where
  pub paced : IsPaced S over run free speed
  pub room : HasRoomForOne S run

-- Unless the call failed, its answer is whether nothing more can be recorded, and the link is free
-- early enough. One arrival was counted, unless nothing more can be recorded or the call failed.
pub record PacesOne {C N W : Type 0} (ended : W → Bool) (result : Result Bool Stop) (old new : Run C N W) (free : ℕ) : Type 0 where
  pub over : IfOk result (λ is. ended new.recorder ≡ is)
  pub early : OnOk result (IsEarly free new.tally)
  pub came : IfOk result (λ is. new.tally.came ≡ (if is then old.tally.came else old.tally.came + 1))
  pub stays : OnErr result (new.tally.came ≡ old.tally.came)

-- more can be recorded, and the rate is in range
pub record CanPace {W : Type 0} (over : W → Bool) (recorder : W) (speed : LinkRate) : Type 0 where
  pub going : over recorder ≡ false
  pub rate : IsRate speed

-- unless the call failed, the run ended early exactly if nothing more can be recorded, and otherwise
-- not past the last packet
pub record EndsLink {W : Type 0} (ended : W → Bool) (result : Result (Option Ending) Stop) (recorder : W) : Type 0 where
  pub ends : IfOk result (λ o. IfSome o IsNoPastLast)
  pub over : IfOk result (λ o. ended recorder ≡ not (is_some o))
