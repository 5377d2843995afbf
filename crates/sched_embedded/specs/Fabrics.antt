-- The contents of a fabric after events, if a policy's tree is laid into the fabric.
use Rattle.std.specs.Prelude.{◌≡◌, ◌+◌, ◌⊎◌, Option, None, Some, option_map, List, ◌++◌}
use Rattle.embed_defs.specs.Family.{SameQueues}
use Rattle.embed_defs.specs.Images.{image_map}
use Rattle.embed_defs.specs.Lift.{IsLift}
use Rattle.policy_defs.specs.Policy.{Policy}
use Rattle.sched_defs.specs.SourceState.{start}
use Rattle.sched_defs.specs.Events.{Event, Outcome, after, outcomes, pushed_in, asked_in}
use Rattle.fabric_core.specs.declared.fabric.Fabric.{Ghosts}
use Rattle.sched_core.specs.Spills.{raised, spills_in}
use Rattle.sched_embedded.specs.Laid.{Laid}

-- a run through a fabric: events from the start of a policy whose tree is laid into a target
pub record FabricRun : Type 0 where
  pub policy : Policy
  pub laid : Laid
  pub events : List Event

-- the outcomes of its events
abbrev pub outcomes_of : FabricRun → List Outcome
outcomes_of run = outcomes run.policy run.events (start run.policy)

-- the run of these events, if there are any to run
abbrev pub run_of : Policy → Laid → Option (List Event) → Option FabricRun
run_of policy laid events = option_map (λ es. record { policy = policy; laid = laid; events = es }) events

-- nothing changed
pub record IsAsItWas {F : Type 0} (fabrics : Ghosts F) (old new : F) : Type 0 where
  pub shape : fabrics.shape new ≡ fabrics.shape old
  pub queues : SameQueues (fabrics.queues new) (fabrics.queues old)
  pub pushes : fabrics.pushed new ≡ fabrics.pushed old
  pub pops : fabrics.popped new ≡ fabrics.popped old
  pub spills : fabrics.spilled new ≡ fabrics.spilled old

-- After the events the queues are the lift of the source tree, in the target's shape. There was a
-- push for each packet pushed and none for a packet dropped. There was a pop for each departure,
-- including those that found nothing. If the count of spills is known, it rose by the spills of the
-- pushes.
pub record HoldsAfter {F : Type 0} (fabrics : Ghosts F) (run : FabricRun) (old new : F) : Type 0 where
  pub shape : fabrics.shape new ≡ run.laid.arities
  pub lifted : IsLift (after run.policy run.events (start run.policy)).tree (image_map run.laid.images) (fabrics.queues new)
  pub pushes : fabrics.pushed new ≡ fabrics.pushed old + pushed_in (outcomes_of run)
  pub pops : fabrics.popped new ≡ fabrics.popped old + asked_in (outcomes_of run)
  pub spills : fabrics.spilled new ≡ raised (fabrics.spilled old) (spills_in (Some run.laid.images) run.policy run.events (start run.policy))

-- the same after a prefix of the events
pub record HoldsAmid {F : Type 0} (fabrics : Ghosts F) (run : FabricRun) (old new : F) : Type 0 where
  pub made : List Event
  pub unmade : List Event
  pub whole : made ++ unmade ≡ run.events
  pub holds : HoldsAfter fabrics (record run { events = made }) old new

-- the fabric after a run that wasn't stopped; without a run nothing changed
abbrev pub Leaves : {F : Type 0} → Ghosts F → Option FabricRun → F → F → Type 0
Leaves fabrics None old new = IsAsItWas fabrics old new
Leaves fabrics (Some run) old new = HoldsAfter fabrics run old new

-- the fabric after a run that was stopped midway or before it began
abbrev pub LeavesPart : {F : Type 0} → Ghosts F → Option FabricRun → F → F → Type 0
LeavesPart fabrics None old new = IsAsItWas fabrics old new
LeavesPart fabrics (Some run) old new = IsAsItWas fabrics old new ⊎ HoldsAmid fabrics run old new
