use Rattle.sched_core.proofs.PathNodesMade.{HavePaths}
use Rattle.sched_core.proofs.path_node.class_paths.Given as goal

abbrev pub invariant-loop-class : goal.invariant-loop-class
invariant-loop-class l = HavePaths l.policy.policy l.paths.items l.class-index
