use Rattle.sched_core.proofs.Prelude.{◌≡◌, take, class_in, number_at}
use Rattle.sched_core.proofs.PathNodesMade.{HaveStops}
use Rattle.sched_core.proofs.path_node.path_nodes_of.Given as goal

abbrev pub invariant-loop-digit : goal.invariant-loop-digit
invariant-loop-digit l = record {
  node : l.node ≡ number_at l.policy.policy.tree (take l.digit-index l.digits);
  path_nodes : HaveStops l.policy.policy.tree (class_in l.policy.policy.tree l.class) l.path_nodes.items l.digit-index;
}
