-- The source states that a scheduler over a source tree represents.
use Rattle.std.specs.Prelude.{◌≡◌}
use Rattle.tree_core.specs.TreeContents.{TreeContents}
use Rattle.sched_defs.specs.SourceState.{SourceState}
use Rattle.sched_core.specs.declared.direct.Direct.{Direct}
use Rattle.sched_core.specs.PolicyState.{IsOwn}

-- the queues are those of the tree under the scheduler, which was pushed once for each packet
-- pushed
pub record DirectStands (c : Direct) (under : TreeContents) (s : SourceState) : Type 0 where
  pub own : IsOwn c.own s
  pub tree : s.tree ≡ under.tree
  pub pushes : under.pushes ≡ c.own.pushes
