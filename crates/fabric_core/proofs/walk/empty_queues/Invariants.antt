use Rattle.fabric_core.proofs.Prelude.{◌≡◌, [], length, ◌*◌, ◌≤◌, map, drop, true, AllByRecursion, ◌+◌, nodes}
use Rattle.embed_defs.specs.Target.{leaves}
use Rattle.fabric_core.proofs.LevelSteps.{HasFlowsSoFar}
use Rattle.fabric_core.proofs.walk.empty_queues.Given as goal

abbrev pub invariant-loop-arity : goal.invariant-loop-arity
invariant-loop-arity g l = record {
  counted : length l.queues.items + l.width * nodes (drop l.arity-index l.arities) ≡ nodes l.arities;
  leaves : l.width * leaves (drop l.arity-index l.arities) ≡ leaves l.arities;
  before : length l.queues.items ≤ l.arity-index * 65536;
  some : 1 ≤ l.width;
  entries : AllByRecursion (λ q. q ≡ []) (map g.Q.NodeQueue.entries l.queues.items);
  pushes : AllByRecursion (λ n. n ≡ 0) (map g.Q.NodeQueue.pushes l.queues.items);
  flows : g.Q.NodeQueue.tells ≡ true → HasFlowsSoFar l.arities l.arity-index (map g.Q.NodeQueue.flows l.queues.items) (length l.queues.items) l.width;
}
