use Rattle.block_core.proofs.Prelude.{arith, map, deque_items, heap_items, rules, length-map, held}
use Rattle.block_core.proofs.BlockLaws.{new_is, new_counted, queue_in-new}
use Rattle.block_core.proofs.PartLaws.{no_room}
use Rattle.block_core.proofs.block.BlockPifo.new.Goals as goal

pub invariant_of-result : goal.invariant_of-result
invariant_of-result c =
    let ss = map deque_items c.loop.stores.items in (
      new_is ss (heap_items c.new-2.result) (heap_items c.new-3.result) (omega (arith, length-map c.loop.stores.items deque_items, c.loop.invariant.count, c.loop.auto.counter-end, c.loop-test.false, c.requires.some)) c.loop.invariant.empty c.new-2.ensures.items c.new-3.ensures.items c.new-2.ensures.heap_order c.new-3.ensures.heap_order,
      no_room c.loop.stores.items,
      search rules,
      search rules,
      new_counted ss (heap_items c.new-3.result) c.loop.invariant.empty c.new-3.ensures.items,
    )

pub returns-clause-entries : goal.returns-clause-entries
returns-clause-entries c = queue_in-new (map deque_items c.loop.stores.items) (held (heap_items c.new-3.result))
