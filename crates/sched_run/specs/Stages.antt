-- The stage of a run, and the effect of consecutive events on it.
use Rattle.std.specs.Prelude.{◌≡◌, ◌<◌, ◌≤◌, ◌^◌, ℕ, ◌+◌, Bool, true, false, Option, List, [], ◌∷◌, ◌++◌, length}
use Rattle.std.specs.List.{AllByRecursion}
use Rattle.tree_defs.specs.SourceTree.{size}
use Rattle.packet_defs.specs.declared.packet.Packet.{Packet}
use Rattle.policy_defs.specs.Policy.{Policy}
use Rattle.sched_defs.specs.SourceState.{SourceState, start}
use Rattle.sched_defs.specs.Events.{Event, Arrive, Depart, outcomes, dropped_in}
use Rattle.sched_defs.specs.Packets.{most_packets}
use Rattle.sched_defs.specs.Numbered.{AreNumberedFrom, IsSendable, IsHeldBelow}
use Rattle.sched_core.specs.declared.scheduler.Scheduler.{Ghosts}
use Rattle.sched_core.specs.Standing.{ForEachState}
use Rattle.sched_run.specs.Played.{Plays, StopsIn}
use Rattle.sched_run.specs.Shown.{shown_in}
use Rattle.tap_core.specs.Watching.{Sight, Shows, sight_of}
use Rattle.tap_core.specs.declared.tap.Tap as tap
use Rattle.tap_core.specs.declared.watching.Watching.{Watching}
use Rattle.outside_core.specs.declared.sinks.Sink as sink
use Rattle.sched_run.specs.declared.run.Run.{Run}
use Rattle.sched_run.specs.declared.tally.Tally.{Tally}
use Rattle.sched_run.specs.Recording.{Recordings}

-- the scheduler and its queues, the recorder and the bytes written so far, the number of packets
-- read, the tally, and the taps that watch
pub record Stage (C U W : Type 0) : Type 0 where
  pub scheduler : C
  pub under : U
  pub recorder : W
  pub written : Option (List ℕ)
  pub given : ℕ
  pub tally : Tally
  pub sight : Sight

abbrev pub stage : {C U W : Type 0} → C → U → W → Option (List ℕ) → ℕ → Tally → Sight → Stage C U W
stage c u w written given tally sight = record { scheduler = c; under = u; recorder = w; written = written; given = given; tally = tally; sight = sight }

abbrev pub stage_of : {C U N W : Type 0} → Run C N W → U → Option (List ℕ) → ℕ → Sight → Stage C U W
stage_of run u written given sight = stage run.scheduler u run.recorder written given run.tally sight

-- the same, of a run with its sink and the taps that watch it
abbrev pub stage_at : {C U N W K T : Type 0} → sink.Ghosts K → tap.Ghosts T → Run C N W → U → K → ℕ → Watching T → Stage C U W
stage_at k t run u to given watch = stage_of run u (k.written to) given (sight_of t.kind_of t.state_of watch)

-- the number of the next event
abbrev pub event_of : Tally → ℕ
event_of tally = tally.came + tally.asked + 1

-- no event was made yet
pub record IsFresh (tally : Tally) : Type 0 where
  pub none_came : tally.came ≡ 0
  pub none_dropped : tally.dropped ≡ 0
  pub none_asked : tally.asked ≡ 0

-- P holds of each sound state that the stage represents and in which no packet yet to arrive is
-- queued
abbrev pub FromEach : {C U W : Type 0} → Ghosts C U → Policy → Stage C U W → (SourceState → Type 0) → Type 0
FromEach S policy at P = ForEachState S.stands policy at.scheduler at.under (λ s. IsHeldBelow (at.given + 1) s.held → P s)

-- no packet yet to arrive is queued, and the counts have room for departures of all that are
pub record IsReady (given : ℕ) (tally : Tally) (s : SourceState) : Type 0 where
  pub held : IsHeldBelow (given + 1) s.held
  pub few : tally.asked + size s.tree ≤ 2 ^ 34

-- no packet yet to arrive is queued, and at most 2^32 packets are
pub record CanBegin (given : ℕ) (s : SourceState) : Type 0 where
  pub held : IsHeldBelow (given + 1) s.held
  pub few : size s.tree ≤ 2 ^ 32

-- this holds at the start of every policy
abbrev pub StartsCanBegin : Type 0
StartsCanBegin = (policy : Policy) (given : ℕ) → CanBegin given (start policy)

-- the counts have room for all packets that may arrive
pub record HasRoom (pushes departures given : ℕ) (tally : Tally) : Type 0 where
  pub pushes_fit : pushes < 2 ^ 60 + tally.came
  pub departures_fit : departures < 2 ^ 60 + tally.asked
  pub came : tally.came ≤ given
  pub dropped : tally.dropped ≤ tally.came
  pub few : given ≤ most_packets
  pub few_asked : tally.asked ≤ 2 ^ 34

abbrev pub HasRoomFor : {C U N W : Type 0} → Ghosts C U → Run C N W → ℕ → Type 0
HasRoomFor S run given = HasRoom (S.pushes run.scheduler) (S.departures run.scheduler) given run.tally

-- the packets of the arrivals, in order
abbrev pub packets_in : List Event → List Packet
packets_in [] = []
packets_in (Arrive p ∷ es) = p ∷ packets_in es
packets_in (Depart start ∷ es) = packets_in es

-- the number of arrivals and of departures among events
abbrev pub arrivals_in : List Event → ℕ
arrivals_in [] = 0
arrivals_in (Arrive p ∷ es) = 1 + arrivals_in es
arrivals_in (Depart start ∷ es) = arrivals_in es

abbrev pub departures_in : List Event → ℕ
departures_in [] = 0
departures_in (Arrive p ∷ es) = departures_in es
departures_in (Depart start ∷ es) = 1 + departures_in es

-- these packets may arrive after `given` others: numbered consecutively, and each can be sent
pub record AreNext (policy : Policy) (given : ℕ) (packets : List Packet) : Type 0 where
  pub numbered : AreNumberedFrom (given + 1) packets
  pub sendable : AllByRecursion (IsSendable policy) packets

-- all of the events were made, their outcomes recorded and counted, and shown to the taps that
-- watch
pub record Makes {C U W : Type 0} (S : Ghosts C U) (R : Recordings W) (policy : Policy) (events : List Event) (old new : Stage C U W) : Type 0 where
  pub next : AreNext policy old.given (packets_in events)
  pub came : new.tally.came ≡ old.tally.came + arrivals_in events
  pub asked : new.tally.asked ≡ old.tally.asked + departures_in events
  pub dropped : FromEach S policy old (λ s. new.tally.dropped ≡ old.tally.dropped + dropped_in (outcomes policy events s))
  pub played : FromEach S policy old (λ s. Plays S R policy (event_of old.tally) events s old.scheduler old.under old.recorder old.written
      new.scheduler new.under new.recorder new.written)
  pub shown : FromEach S policy old (λ s. Shows (shown_in policy (outcomes policy events s)) old.sight new.sight)

-- The events were made, and after the last of them nothing more can be recorded. After all earlier
-- ones more could still be recorded.
pub record MakesLast {C U W : Type 0} (S : Ghosts C U) (R : Recordings W) (over : W → Bool) (policy : Policy) (events : List Event) (old new : Stage C U W) : Type 0 where
  pub before : List Event
  pub last : Event
  pub are : before ++ last ∷ [] ≡ events
  pub amid : Stage C U W
  pub made : Makes S R policy before old amid
  pub given : amid.given ≡ old.given + arrivals_in before
  pub going : over amid.recorder ≡ false
  pub made_last : Makes S R policy (last ∷ []) amid new
  pub is_over : over new.recorder ≡ true

-- a prefix of the events was made, and a prefix of the record of all of them is written
pub record Stops {C U W : Type 0} (S : Ghosts C U) (R : Recordings W) (policy : Policy) (events : List Event) (old : Stage C U W) (c : C) (u : U) (written : Option (List ℕ)) : Type 0 where
  pub next : AreNext policy old.given (packets_in events)
  pub stopped : FromEach S policy old (λ s. StopsIn S R policy (event_of old.tally) events s old.scheduler old.under old.recorder old.written c u written)

-- The events stopped at the last of them, if there is one. After all earlier ones more could still
-- be recorded.
pub record StopsLast {C U W : Type 0} (S : Ghosts C U) (R : Recordings W) (over : W → Bool) (policy : Policy) (events : List Event) (old : Stage C U W) (c : C) (u : U) (written : Option (List ℕ)) : Type 0 where
  pub before : List Event
  pub last : List Event
  pub are : before ++ last ≡ events
  pub few : length last ≤ 1
  pub amid : Stage C U W
  pub made : Makes S R policy before old amid
  pub given : amid.given ≡ old.given + arrivals_in before
  pub going : over amid.recorder ≡ false
  pub stop : Stops S R policy last amid c u written
