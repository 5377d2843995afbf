-- The conditions that each call of a run needs and keeps.
use Rattle.std.specs.Prelude.{◌≡◌, ◌≤◌, ◌<◌, ◌+◌, ◌^◌, ℕ, Bool, Result, IfErr, OnOk, OnErr}
use Rattle.outside_core.specs.Kept.{KeepsSink, HasCause, HasSinkCause}
use Rattle.outside_core.specs.declared.stop.Stop.{Stop}
use Rattle.outside_core.specs.declared.sinks.Sink as sink
use Rattle.tree_defs.specs.Tree.{depth}
use Rattle.policy_defs.specs.Policy.{Policy}
use Rattle.policy_defs.specs.Accepted.{IsAccepted}
use Rattle.events_core.specs.Script.{most_count}
use Rattle.sched_defs.specs.SourceState.{SourceState}
use Rattle.sched_defs.specs.Script.{Step}
use Rattle.sched_defs.specs.Packets.{most_packets, StaysKnown}
use Rattle.sched_defs.specs.declared.packets.Packets as packets
use Rattle.sched_core.specs.declared.scheduler.Scheduler.{Ghosts}
use Rattle.sched_core.specs.Standing.{StandForOne, ForEachState}
use Rattle.tree_core.specs.Paths.{Way}
use Rattle.tap_core.specs.Watching.{sight_of, AreNoMore}
use Rattle.tap_core.specs.declared.tap.Tap as tap
use Rattle.tap_core.specs.declared.watching.Watching.{Watching}
use Rattle.sched_run.specs.declared.recorder.Recorder as recorder
use Rattle.sched_run.specs.declared.run.Run.{Run}
use Rattle.sched_run.specs.declared.tally.Tally.{Tally}
use Rattle.sched_run.specs.Stages.{IsFresh, HasRoomFor}
use Rattle.sched_run.specs.Steps.{asked_by}

-- the policy is accepted, the node names and the version are the policy's own, the trace has room
-- for a path, and outcomes can be recorded
pub record IsSet {C U N W : Type 0} (S : Ghosts C U) (R : recorder.Ghosts W) (named : N → Policy) (run : Run C N W) : Type 0 where
  pub accepted : IsAccepted (S.policy run.scheduler)
  pub names : named run.names ≡ S.policy run.scheduler
  pub version : run.version ≡ (S.policy run.scheduler).version
  pub room : depth (S.policy run.scheduler).tree ≤ run.trace.room
  pub live : R.live run.recorder

-- the policy, the origin of the queues, the names, the version and the room for a path are
-- unchanged
pub record Continues {C U N W : Type 0} (S : Ghosts C U) (old new : Run C N W) : Type 0 where
  pub policy : S.policy new.scheduler ≡ S.policy old.scheduler
  pub origin : S.origin new.scheduler ≡ S.origin old.scheduler
  pub names : new.names ≡ old.names
  pub version : new.version ≡ old.version
  pub room : new.trace.room ≡ old.trace.room

-- A call on the run that reads no packets leaves the policy, the names and what the sink was given.
-- Outcomes can still be recorded unless the call fails, and it fails only for a cause. No taps were
-- added.
pub record KeepsShown {C U N W K T X : Type 0} (S : Ghosts C U) (R : recorder.Ghosts W) (k : sink.Ghosts K) (t : tap.Ghosts T) (result : Result X Stop) (old new : Run C N W) (to to' : K)
    (watch watch' : Watching T) : Type 0 where
  pub kept : Continues S old new
  pub live : OnOk result (R.live new.recorder)
  pub fewer : AreNoMore (sight_of t.kind_of t.state_of watch) (sight_of t.kind_of t.state_of watch')
  pub kept_sink : KeepsSink k.written k.faults to to'
  pub cause : IfErr result (λ stop. HasSinkCause stop k.faults to to')

-- the scheduler and its queues represent a sound state with P
abbrev pub Stand : {C U N W : Type 0} → Ghosts C U → Run C N W → U → (SourceState → Type 0) → Type 0
Stand S run u P = StandForOne S.stands (S.policy run.scheduler) run.scheduler u P

-- P holds of each sound state that they represent
abbrev pub FromAll : {C U N W : Type 0} → Ghosts C U → Run C N W → U → (SourceState → Type 0) → Type 0
FromAll S run u P = ForEachState S.stands (S.policy run.scheduler) run.scheduler u P

-- the packets keep their policy, and the fault count of their source doesn't fall
pub record KeepsPackets {P S : Type 0} (p : packets.Ghosts P S) (old new : P) (source source' : S) : Type 0 where
  pub policy : p.policy new ≡ p.policy old
  pub later : p.faults source ≤ p.faults source'

-- The same for a call that reads packets. At most 2^32 - 1 packets have arrived after it, and no taps
-- were added.
pub record KeepsPlay {C U N W P F K T X : Type 0} (S : Ghosts C U) (R : recorder.Ghosts W) (p : packets.Ghosts P F) (k : sink.Ghosts K) (t : tap.Ghosts T) (result : Result X Stop) (old new : Run C N W)
    (left left' : P) (source source' : F) (to to' : K) (watch watch' : Watching T) : Type 0 where
  pub kept : Continues S old new
  pub live : OnOk result (R.live new.recorder)
  pub came : new.tally.came ≤ most_packets
  pub fewer : AreNoMore (sight_of t.kind_of t.state_of watch) (sight_of t.kind_of t.state_of watch')
  pub kept_sink : KeepsSink k.written k.faults to to'
  pub kept_packets : KeepsPackets p left left' source source'
  pub cause : IfErr result (λ stop. HasCause stop p.faults source source' k.faults to to')

-- packets that are read for the run: resolved under its policy, and more may be read
pub record Feeds {C U N W P F : Type 0} (S : Ghosts C U) (p : packets.Ghosts P F) (run : Run C N W) (left : P) (source : F) : Type 0 where
  pub packets : p.policy left ≡ S.policy run.scheduler
  pub ready : p.ready left source

-- A run can begin over these packets: no event was counted yet, more packets may be read, and the
-- counts have room for all of them.
pub record CanBeginRun {C U N W P F : Type 0} (S : Ghosts C U) (p : packets.Ghosts P F) (run : Run C N W) (left : P) (source : F) : Type 0 where
  pub feeds : Feeds S p run left source
  pub counts : HasRoomFor S run (p.given left)
  pub fresh : IsFresh run.tally

-- the counts have room for one more arrival
pub record HasRoomForOne {C U N W : Type 0} (S : Ghosts C U) (run : Run C N W) : Type 0 where
  pub pushes : S.pushes run.scheduler < 2 ^ 61
  pub events : run.tally.came + run.tally.asked < 2 ^ 62
  pub dropped : run.tally.dropped ≤ run.tally.came

-- the counts have room for one more arrival or departure
pub record HasRoomForEither {C U N W : Type 0} (S : Ghosts C U) (run : Run C N W) : Type 0 where
  pub arrival : HasRoomForOne S run
  pub departures : S.departures run.scheduler < 2 ^ 61

-- the counts have room for so many departures
pub record HasRoomToDepart {C U N W : Type 0} (S : Ghosts C U) (run : Run C N W) (count : ℕ) : Type 0 where
  pub departures : S.departures run.scheduler + count ≤ 2 ^ 61
  pub events : run.tally.came + run.tally.asked + count ≤ 2 ^ 62

-- the counts have room for a step of a script after this many packets
pub record HasRoomForStep {C U N W : Type 0} (S : Ghosts C U) (run : Run C N W) (given : ℕ) (step : Step) : Type 0 where
  pub room : HasRoomFor S run given
  pub short : asked_by step ≤ most_count

-- One arrival was counted unless the call failed, and no departure was. Nothing more can be recorded
-- only if that was so before.
pub record CountsArrival {C N W X : Type 0} (ended : W → Bool) (result : Result X Stop) (old new : Run C N W) : Type 0 where
  pub came : OnOk result (new.tally.came ≡ old.tally.came + 1)
  pub stays : OnErr result (new.tally.came ≡ old.tally.came)
  pub asked : new.tally.asked ≡ old.tally.asked
  pub over : OnOk result (ended new.recorder ≡ ended old.recorder)

-- no arrival was counted, and unless the call failed, P holds of the number of departures
pub record CountsDepartures {X : Type 0} (P : ℕ → Type 0) (result : Result X Stop) (old new : Tally) : Type 0 where
  pub came : new.came ≡ old.came
  pub dropped : new.dropped ≡ old.dropped
  pub asked : OnOk result (P new.asked)

-- the counts have room for a whole run after this many packets
pub record HasRoomToBegin {C U N W : Type 0} (S : Ghosts C U) (run : Run C N W) (given : ℕ) : Type 0 where
  pub pushes : S.pushes run.scheduler < 2 ^ 60
  pub departures : S.departures run.scheduler < 2 ^ 60
  pub few : given ≤ most_packets

-- A departure can be made and recorded: the policy is accepted, the names are the policy's own, the
-- scheduler and its queues represent a sound state, and path, count and recorder have room.
pub record CanDepart {C U W : Type 0} (S : Ghosts C U) (records : W → Type 0) (named : Policy) (scheduler : C) (under : U) (trace : Way) (recorder : W) : Type 0 where
  pub accepted : IsAccepted (S.policy scheduler)
  pub names : named ≡ S.policy scheduler
  pub stands : StandForOne S.stands (S.policy scheduler) scheduler under (λ _. Unit {0})
  pub room : depth (S.policy scheduler).tree ≤ trace.room
  pub few : S.departures scheduler < 2 ^ 61
  pub live : records recorder

-- As many packets were read as were counted, and more may be read. All that is known of the
-- captured bytes stays known for the packets left.
pub record IsFurther {P S : Type 0} (p : packets.Ghosts P S) (old new : P) (source source' : S) (before now : Tally) : Type 0 where
  pub ready : p.ready new source'
  pub known : StaysKnown (p.captures old source) (p.captures new source')
  pub given : p.given new + before.came ≡ p.given old + now.came
  pub few : p.given new ≤ most_packets
