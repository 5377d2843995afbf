-- Recorders of a run's outcomes: as lines of a report, or in another form.
use Rattle.std.specs.Prelude.{ℕ, ◌+◌, Option, List, [], ◌++◌, length, Result, IfErr, OnOk, OnErr}
use Rattle.outside_core.specs.Faults.{Rose}
use Rattle.outside_core.specs.Kept.{KeepsSink, HasSinkCause}
use Rattle.outside_core.specs.declared.stop.Stop.{Stop}
use Rattle.outside_core.specs.declared.sinks.Sink as sink
use Rattle.policy_defs.specs.Policy.{Policy}
use Rattle.sched_defs.specs.Events.{Outcome}

-- Consecutive outcomes are recorded, the first of which has this event number. The recorder and the
-- bytes written before become the recorder and the bytes written after.
abbrev pub Recording : Type 0 → Type 1
Recording W = W → Option (List ℕ) → Policy → ℕ → List Outcome → W → Option (List ℕ) → Type 0

-- Of what the recorder holds and the outcomes that were to be recorded, only a prefix is written.
abbrev pub Cutting : Type 0 → Type 1
Cutting W = W → Option (List ℕ) → Policy → ℕ → List Outcome → Option (List ℕ) → Type 0

-- outcomes recorded in two calls are recorded as if in one
pub record AreJoined {W : Type 0} (records : Recording W) (cuts : Cutting W) : Type 0 where
  pub none : (policy : Policy) (event : ℕ) (w : W) (a : Option (List ℕ)) → records w a policy event [] w a
  pub both : (policy : Policy) (event : ℕ) (os ps : List Outcome) (w v x : W) (a b c : Option (List ℕ)) → records w a policy event os v b → records v b policy (event + length os) ps x c → records w a policy event (os ++ ps) x c
  pub written : (policy : Policy) (event : ℕ) (os : List Outcome) (w v : W) (a b : Option (List ℕ)) → records w a policy event os v b → cuts w a policy event os b
  pub longer : (policy : Policy) (event : ℕ) (os ps : List Outcome) (w : W) (a b : Option (List ℕ)) → cuts w a policy event os b → cuts w a policy event (os ++ ps) b
  pub later : (policy : Policy) (event : ℕ) (os ps : List Outcome) (w v : W) (a b c : Option (List ℕ)) → records w a policy event os v b → cuts v b policy (event + length os) ps c → cuts w a policy event (os ++ ps) c

-- the relations for outcomes recorded in full and for outcomes cut short
pub record Recordings (W : Type 0) : Type 1 where
  pub records : Recording W
  pub cuts : Cutting W

-- A call that records outcomes leaves what the sink was given. It fails only if the sink does. More
-- can be recorded after it exactly if it didn't fail.
pub record KeepsRecord {W K X E : Type 0} (records : W → Type 0) (k : sink.Ghosts K) (result : Result X E) (recorder : W) (to to' : K) : Type 0 where
  pub kept : KeepsSink k.written k.faults to to'
  pub cause : OnErr result (Rose (k.faults to) (k.faults to'))
  pub live : OnOk result (records recorder)
  pub dead : OnErr result (records recorder → ⊥)

-- the same for a call that may also fail because memory is out
pub record KeepsArrival {W K X : Type 0} (records : W → Type 0) (k : sink.Ghosts K) (result : Result X Stop) (recorder : W) (to to' : K) : Type 0 where
  pub kept : KeepsSink k.written k.faults to to'
  pub cause : IfErr result (λ stop. HasSinkCause stop k.faults to to')
  pub live : OnOk result (records recorder)
  pub dead : OnErr result (records recorder → ⊥)
