-- Policies that are laid into a target.
use Rattle.std.specs.Prelude.{◌≡◌, None}
use Rattle.tree_defs.specs.Topology.{Topology, topology_of}
use Rattle.policy_rules.specs.Resolved.{Resolved}
use Rattle.embed_core.specs.declared.map.EmbedFault.{EmbedFault}
use Rattle.embed_core.specs.declared.map.EmbedFault.TheVariants as embed
use Rattle.mapcheck_core.specs.declared.given.Given.{Given}
use Rattle.outside_core.specs.declared.stop.Stop.TheVariants.{Memory}
use Rattle.report_core.specs.declared.fault.FaultKind.TheVariants as kind
use Rattle.sched_capture.specs.Placements.{Placed}
use Rattle.target_core.specs.declared.target.Target.{Target}
use Rattle.replay_app.specs.Targets.{IsPlacement}
use Rattle.replay_app.specs.Via.{IsCarried}
use Rattle.replay_app.specs.declared.not_run.NotRun.{NotRun}
use Rattle.replay_app.specs.declared.not_run.NotRun.TheVariants.{Rejected, Stopped}

-- why nothing runs if a topology isn't embedded into a target
abbrev pub unplaced : EmbedFault → NotRun
unplaced embed.NoEmbedding = Rejected (record { kind = kind.Size; cause = record { code = 1; place = 0 }; before = None })
unplaced embed.NoMemory = Stopped Memory

-- the policy is laid into the target by the canonical placement
pub record IsLaidAs (policy : Resolved) (target : Target) (laid : Placed) : Type 0 where
  pub is : laid ≡ record { policy = policy; target = target; map = laid.map }
  pub placed : IsPlacement (topology_of policy.policy.tree) target laid.map

-- the policy is laid into the target along a map into a topology
pub record IsLaidAlong (policy : Resolved) (given : Given) (middle : Topology) (target : Target) (laid : Placed) : Type 0 where
  pub is : laid ≡ record { policy = policy; target = target; map = laid.map }
  pub carried : IsCarried policy.policy given middle target laid.map
