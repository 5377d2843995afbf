use Rattle.block_core.proofs.Prelude.{◌≡◌, length, [], map, deque_items, AllByRecursion}
use Rattle.block_core.proofs.block.BlockPifo.new.Given as goal

abbrev pub invariant-loop : goal.invariant-loop
invariant-loop l = record {
  count : length l.stores.items ≡ l.counter;
  empty : AllByRecursion (λ s. s ≡ []) (map deque_items l.stores.items);
}
