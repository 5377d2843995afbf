use Rattle.block_core.proofs.Prelude.{◌≡◌, length, ℕ, map, deque_items, take, HasSpare, rooms}
use Rattle.block_core.proofs.block.reserve_each.Given as goal

abbrev pub invariant-loop-flow : goal.invariant-loop-flow
invariant-loop-flow l = record {
  count : length l.stores.items ≡ length l.initial.stores.items;
  items : map deque_items l.stores.items ≡ map deque_items l.initial.stores.items;
  room : HasSpare l.more (take l.flow (rooms l.stores.items));
  kept : (n : ℕ) → HasSpare n (rooms l.initial.stores.items) → HasSpare n (rooms l.stores.items);
}
