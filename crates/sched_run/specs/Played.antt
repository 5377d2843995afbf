-- The results of a call that makes several events.
use Rattle.std.specs.Prelude.{◌≡◌, ℕ, ◌+◌, ◌↔◌, Option, Result, List, ◌++◌, IsNone, IfOk, IfSome, IfNone}
use Rattle.tree_defs.specs.SourceTree.{size}
use Rattle.packet_defs.specs.declared.packet.Departed.{Departed}
use Rattle.policy_defs.specs.Policy.{Policy}
use Rattle.sched_defs.specs.SourceState.{SourceState, departed, leaver}
use Rattle.sched_defs.specs.Events.{Event, after, outcome, outcomes, pushed_in, asked_in}
use Rattle.sched_defs.specs.Report.{outcome_line, lines_from}
use Rattle.sched_core.specs.declared.scheduler.Scheduler.{Ghosts}
use Rattle.sched_core.specs.Standing.{ForEachState}
use Rattle.sched_core.specs.Departures.{next_departed, IsTaken}
use Rattle.sched_core.specs.Origins.{images_of}
use Rattle.sched_core.specs.Spills.{raised, spills_in}
use Rattle.tree_core.specs.Paths.{Way}
use Rattle.sched_run.specs.Recording.{Recordings}

-- the lines of events from a state, if the first event has this number
abbrev pub told : Policy → ℕ → List Event → SourceState → List ℕ
told policy event events from = lines_from policy event (outcomes policy events from)

-- the line of an event from a state, if it has this number
abbrev pub line_of : Policy → ℕ → Event → SourceState → List ℕ
line_of policy event e from = outcome_line policy event (outcome policy e from)

-- one departure was asked for: the scheduler's other counts, its policy and its origin are
-- unchanged
pub record AsksOnce {C U : Type 0} (S : Ghosts C U) (c : C) (u : U) (c' : C) (u' : U) : Type 0 where
  pub pushes : S.pushes c' ≡ S.pushes c
  pub departures : S.departures c' ≡ S.departures c + 1
  pub policy : S.policy c' ≡ S.policy c
  pub origin : S.origin c' ≡ S.origin c
  pub spilled : S.spilled c' u' ≡ S.spilled c u

-- One departure was made. If the scheduler c and the queues u represented a state, then c' and u'
-- represent the state after the departure. Unless the record failed, the answer is the packet that
-- departed, or none exactly if no packet was queued. The trace has the path of that packet, and is
-- unchanged if there is none.
pub record Departs {C U E : Type 0} (S : Ghosts C U) (answer : Result (Option Departed) E) (c : C) (u : U) (trace : Way) (c' : C) (u' : U) (trace' : Way) : Type 0 where
  pub state : ForEachState S.stands (S.policy c) c u (λ s. S.stands c' u' (departed (S.policy c) s))
  pub value : ForEachState S.stands (S.policy c) c u (λ s. IfOk answer (λ d. d ≡ next_departed (S.policy c) s))
  pub none : ForEachState S.stands (S.policy c) c u (λ s. IfOk answer (λ d. IsNone d ↔ (size s.tree ≡ 0)))
  pub taken : ForEachState S.stands (S.policy c) c u (λ s. IfSome (leaver s) (λ l. IsTaken l trace'))
  pub untouched : ForEachState S.stands (S.policy c) c u (λ s. IfNone (leaver s) (trace' ≡ trace))
  pub room : trace'.room ≡ trace.room
  pub asked : AsksOnce S c u c' u'

-- The events were made. The scheduler c and the queues u represented the first state; now c' and u'
-- represent the state after the events. Pushes and departures are counted. The spill count, if
-- known, rose by the spills of the pushes.
pub record HasMade {C U : Type 0} (S : Ghosts C U) (policy : Policy) (events : List Event) (from : SourceState) (c : C) (u : U) (c' : C) (u' : U) : Type 0 where
  pub state : S.stands c' u' (after policy events from)
  pub pushed : S.pushes c' ≡ S.pushes c + pushed_in (outcomes policy events from)
  pub asked : S.departures c' ≡ S.departures c + asked_in (outcomes policy events from)
  pub origin : S.origin c' ≡ S.origin c
  pub spilled : S.spilled c' u' ≡ raised (S.spilled c u) (spills_in (images_of (S.origin c)) policy events from)

-- a prefix of the events was made
pub record HasMadeSome {C U : Type 0} (S : Ghosts C U) (policy : Policy) (events : List Event) (from : SourceState) (c : C) (u : U) (c' : C) (u' : U) : Type 0 where
  pub made : List Event
  pub unmade : List Event
  pub whole : made ++ unmade ≡ events
  pub leaves : HasMade S policy made from c u c' u'

-- all of the events were made, and their outcomes are recorded
pub record Plays {C U W : Type 0} (S : Ghosts C U) (R : Recordings W) (policy : Policy) (event : ℕ) (events : List Event) (from : SourceState)
    (c : C) (u : U) (w : W) (a : Option (List ℕ)) (c' : C) (u' : U) (w' : W) (a' : Option (List ℕ)) : Type 0 where
  pub leaves : HasMade S policy events from c u c' u'
  pub recorded : R.records w a policy event (outcomes policy events from) w' a'

-- a prefix of the events was made, and a prefix of the record of all of them is written
pub record StopsIn {C U W : Type 0} (S : Ghosts C U) (R : Recordings W) (policy : Policy) (event : ℕ) (events : List Event) (from : SourceState)
    (c : C) (u : U) (w : W) (a : Option (List ℕ)) (c' : C) (u' : U) (written : Option (List ℕ)) : Type 0 where
  pub leaves : HasMadeSome S policy events from c u c' u'
  pub cut : R.cuts w a policy event (outcomes policy events from) written
