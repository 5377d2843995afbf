use Rattle.fabric_core.proofs.Prelude.{ℕ, ◌≡◌, ◌+◌, [], length, get_or, ◌<◌, ◌≤◌, map, true, AllByRecursion}
use Rattle.fabric_core.proofs.walk.add_level.Given as goal

abbrev pub invariant-loop : goal.invariant-loop
invariant-loop g l = record {
  long : length l.queues.items ≡ length l.initial.queues.items + l.counter;
  entries : AllByRecursion (λ q. q ≡ []) (map g.Q.NodeQueue.entries l.initial.queues.items) → AllByRecursion (λ q. q ≡ []) (map g.Q.NodeQueue.entries l.queues.items);
  pushes : AllByRecursion (λ n. n ≡ 0) (map g.Q.NodeQueue.pushes l.initial.queues.items) → AllByRecursion (λ n. n ≡ 0) (map g.Q.NodeQueue.pushes l.queues.items);
  kept : (j : ℕ) → j < length l.initial.queues.items → get_or (map g.Q.NodeQueue.flows l.queues.items) j 0 ≡ get_or (map g.Q.NodeQueue.flows l.initial.queues.items) j 0;
  flows : g.Q.NodeQueue.tells ≡ true → (j : ℕ) → length l.initial.queues.items ≤ j → j < length l.queues.items → get_or (map g.Q.NodeQueue.flows l.queues.items) j 0 ≡ l.count;
}
