-- The source states that a scheduler over a fabric represents.
use Rattle.std.specs.Prelude.{◌≡◌, ◌↔◌, ◌+◌, ◌<◌, ◌^◌, ℕ, List}
use Rattle.tree_defs.specs.Tree.{Tree, Address, SameShape}
use Rattle.tree_defs.specs.Topology.{topology_of, complete}
use Rattle.embed_defs.specs.Embedding.{IsEmbedding}
use Rattle.embed_defs.specs.Family.{SameQueues}
use Rattle.embed_defs.specs.Images.{image_map}
use Rattle.embed_defs.specs.Lift.{IsLift}
use Rattle.embed_defs.specs.Target.{IsInRange}
use Rattle.policy_defs.specs.Policy.{Policy}
use Rattle.target_core.specs.declared.target.Target.{Target}
use Rattle.fabric_core.specs.declared.fabric.Fabric.{Ghosts}
use Rattle.sched_defs.specs.SourceState.{SourceState}
use Rattle.sched_defs.specs.Sound.{IsSound}
use Rattle.sched_core.specs.Held.{held_at}
use Rattle.sched_core.specs.Agreement.{AreStates}
use Rattle.sched_core.specs.Origins.{Origin}
use Rattle.sched_core.specs.Standing.{StandForOne}
use Rattle.sched_core.specs.declared.policy_state.PolicyState.{PolicyState}
use Rattle.sched_core.specs.PolicyState.{IsOwn, policy_in}
use Rattle.sched_embedded.specs.declared.embedded.Embedded.{Embedded}

-- the position of the queues in the target
abbrev pub origin_of : {F : Type 0} → Embedded F → Origin
origin_of c = record { images = c.embedding.images; arities = c.embedding.arities; pushes = c.pushes_before; pops = c.pops_before }

-- images and arities in a fabric with earlier pushes and pops
abbrev pub origin_in : {F : Type 0} → Ghosts F → Tree Address → List ℕ → F → Origin
origin_in fabrics images arities fabric = record { images = images; arities = arities; pushes = fabrics.pushed fabric; pops = fabrics.popped fabric }

-- The queues are the lift of the source tree, in the target's shape. Since the scheduler was made,
-- the fabric was pushed once for each packet pushed and popped once for each departure.
pub record EmbeddedStands {F : Type 0} (fabrics : Ghosts F) (c : Embedded F) (fabric : F) (s : SourceState) : Type 0 where
  pub own : IsOwn c.own s
  pub shape : fabrics.shape fabric ≡ c.embedding.arities
  pub lifted : IsLift s.tree (image_map c.embedding.images) (fabrics.queues fabric)
  pub pushes : fabrics.pushed fabric ≡ c.pushes_before + c.own.pushes
  pub pops : fabrics.popped fabric ≡ c.pops_before + c.own.departures

-- ---- a new scheduler
-- the target is in range, and the map embeds the policy's tree into it
pub record MapsInto (policy : Policy) (images : Tree Address) (target : Target) : Type 0 where
  pub range : IsInRange target.arities target.above
  pub map_shape : SameShape (topology_of policy.tree) images
  pub embedding : IsEmbedding (topology_of policy.tree) (complete target.arities) (image_map images)

-- the fabric's counts of pushes and pops are small enough for another run
pub record CanCount {F : Type 0} (fabrics : Ghosts F) (fabric : F) : Type 0 where
  pub pushes : fabrics.pushed fabric < 2 ^ 61
  pub pops : fabrics.popped fabric < 2 ^ 61

-- the shape and the queues of a fabric are the same
pub record KeepsQueues {F : Type 0} (fabrics : Ghosts F) (old new : F) : Type 0 where
  pub shape : fabrics.shape new ≡ fabrics.shape old
  pub queues : SameQueues (fabrics.queues new) (fabrics.queues old)

-- its counts of pushes, pops and spills are the same
pub record KeepsCounts {F : Type 0} (fabrics : Ghosts F) (old new : F) : Type 0 where
  pub pushed : fabrics.pushed new ≡ fabrics.pushed old
  pub popped : fabrics.popped new ≡ fabrics.popped old
  pub spilled : fabrics.spilled new ≡ fabrics.spilled old

-- ---- five points
-- the node states, the queued packets and the latest timestamp
pub record IsKept (own : PolicyState) (s : SourceState) : Type 0 where
  pub nodes : AreStates own.node_states s.nodes
  pub held : (n : ℕ) → held_at own.held n ≡ s.held n
  pub now : s.now ≡ own.moment

-- the same without the counts that a scheduler keeps of its packets
pub record HasFivePoints {F : Type 0} (fabrics : Ghosts F) (c : Embedded F) (fabric : F) (s : SourceState) : Type 0 where
  pub kept : IsKept c.own s
  pub shape : fabrics.shape fabric ≡ c.embedding.arities
  pub lifted : IsLift s.tree (image_map c.embedding.images) (fabrics.queues fabric)
  pub pushes : fabrics.pushed fabric ≡ c.pushes_before + c.own.pushes
  pub pops : fabrics.popped fabric ≡ c.pops_before + c.own.departures

-- Take a scheduler that represents some sound state with some fabric. It represents another sound
-- state with another fabric exactly if the five points hold: its counts of packets are then right
-- too.
abbrev pub FivePointsStand : {F : Type 0} → Ghosts F → Type 0
FivePointsStand {F} fabrics =
    (c : Embedded F) (some other : F) (s : SourceState) → StandForOne (EmbeddedStands fabrics) (policy_in c.own) c some (λ _. Unit {0}) → IsSound (policy_in c.own) s
    → EmbeddedStands fabrics c other s ↔ HasFivePoints fabrics c other s
