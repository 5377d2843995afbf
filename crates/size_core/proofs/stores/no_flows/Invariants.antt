use Rattle.std.proofs.Common.{◌≡◌, ◌≤◌, [], map, length, replicate, deque_items}
use Rattle.size_core.proofs.stores.no_flows.Given as goal

abbrev pub invariant-loop : goal.invariant-loop
invariant-loop l = record {
  empty : map deque_items l.stores.items ≡ replicate l.counter [];
  count : length l.stores.items ≡ l.counter;
  few : l.counter ≤ l.flows;
}
