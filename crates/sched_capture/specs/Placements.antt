-- The placement of a policy's tree in the hardware.
use Rattle.tree_defs.specs.Tree.{Tree, Address}
use Rattle.policy_defs.specs.Policy.{Policy}
use Rattle.policy_rules.specs.Resolved.{Resolved}
use Rattle.target_core.specs.declared.target.Target.{Target}
use Rattle.sched_defs.specs.SourceState.{start}
use Rattle.sched_defs.specs.Packets.{Left}
use Rattle.sched_run.specs.declared.pace.Pace.{Pace}
use Rattle.sched_run.specs.Courses.{course_of}
pub use Rattle.sched_embedded.specs.Embedded.{MapsInto, CanCount}
use Rattle.sched_embedded.specs.Fabrics.{FabricRun}
use Rattle.sched_embedded.specs.Laid.{Laid}

-- a policy, a target, and the image of each node of the policy's tree in the target
pub record Placed : Type 0 where
  pub policy : Resolved
  pub target : Target
  pub map : Tree Address

-- these images in a target of this shape
abbrev pub laid_in : Tree Address → Target → Laid
laid_in images target = record { images = images; arities = target.arities }

-- the images and the hardware's shape of a placed policy
abbrev pub laid_by : Placed → Laid
laid_by placed = laid_in placed.map placed.target

-- the run over the packets left of a capture, through a fabric into which the policy's tree is laid
abbrev pub paced_through : Policy → Laid → Pace → Left → FabricRun
paced_through policy laid pace l = record { policy = policy; laid = laid; events = (course_of policy pace l (start policy) 1).events }
