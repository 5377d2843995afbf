-- The run of a generated load, and its counts.
use Rattle.policy_defs.specs.Policy.{Policy}
use Rattle.sched_defs.specs.SourceState.{start}
use Rattle.sched_defs.specs.Events.{outcomes, pushed_in, popped_in, empty_in}
use Rattle.sched_embedded.specs.Fabrics.{FabricRun}
use Rattle.sched_embedded.specs.Laid.{Laid}
use Rattle.sched_run.specs.Load.{load_run, sum_of}
use Rattle.sched_capture.specs.declared.load.LoadCounts.{LoadCounts}
use Rattle.sched_capture.specs.declared.load.LoadSize.{LoadSize}

-- the run of a load through a fabric into which the policy's tree is laid
abbrev pub load_through : Policy → Laid → LoadSize → FabricRun
load_through policy laid load = record { policy = policy; laid = laid; events = load_run policy load.seed load.count (start policy) }

-- the counts of a load, by the policy's own tree
abbrev pub load_counts : Policy → LoadSize → LoadCounts
load_counts policy load = record {
  pushed = pushed_in (outcomes policy (load_run policy load.seed load.count (start policy)) (start policy));
  popped = popped_in (outcomes policy (load_run policy load.seed load.count (start policy)) (start policy));
  empty = empty_in (outcomes policy (load_run policy load.seed load.count (start policy)) (start policy));
  sum = sum_of 0 (outcomes policy (load_run policy load.seed load.count (start policy)) (start policy));
}
