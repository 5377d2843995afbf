-- Policies of a single leaf, and schedulers over a fabric after their first two arrivals.
use Rattle.std.specs.Prelude.{◌≡◌, ◌+◌, [], ◌∷◌, length}
use Rattle.tree_defs.specs.Tree.{Tree, leaf}
use Rattle.tree_defs.specs.Topology.{topology_of}
use Rattle.embed_defs.specs.Canonical.{IsCanonical}
use Rattle.packet_defs.specs.declared.packet.Packet.{Packet}
use Rattle.policy_defs.specs.Policy.{Policy, Node, no_limits}
use Rattle.sched_defs.specs.SourceState.{start}
use Rattle.sched_defs.specs.Events.{Arrive, after}
use Rattle.target_core.specs.declared.target.Target.{Target}
use Rattle.embed_core.specs.Range.{levels_of}
use Rattle.fabric_core.specs.declared.fabric.Fabric.{Ghosts}
use Rattle.sched_core.specs.PolicyState.{policy_in}
use Rattle.sched_embedded.specs.declared.embedded.Embedded.{Embedded}
use Rattle.sched_embedded.specs.Embedded.{EmbeddedStands, origin_of}

-- a single leaf without variables and without limits
pub record IsPlain (tree : Tree Node) : Type 0 where
  pub node : Node
  pub is : tree ≡ leaf node
  pub keeps : node.program.keeps ≡ []
  pub eaches : node.program.eaches ≡ []
  pub limits : node.limits ≡ no_limits

-- the scheduler was created over this fabric; then these two packets arrived, and nothing departed
pub record IsFilled {F : Type 0} (fabrics : Ghosts F) (policy : Policy) (target : Target) (p q : Packet) (c : Embedded F) (fabric : F) : Type 0 where
  pub stands : EmbeddedStands fabrics c fabric (after policy (Arrive p ∷ Arrive q ∷ []) (start policy))
  pub own : policy_in c.own ≡ policy
  pub images : IsCanonical (levels_of target) (length target.arities) (topology_of policy.tree) (origin_of c).images
  pub arities : (origin_of c).arities ≡ target.arities
  pub pushes : (origin_of c).pushes + c.own.pushes ≡ 2
  pub pops : (origin_of c).pops + c.own.departures ≡ 0
