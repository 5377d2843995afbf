use Rattle.std.proofs.Common.{◌≡◌, rules, arith, length, drop, heap_items, heap_len, vec_len}
use Rattle.std.proofs.lemmas.List.{length-drop}
use Rattle.pifo_core.proofs.HeapLaws.{length-queue_of_both}
use Rattle.pifo_core.proofs.heap.HeapPifoPifo.len.Goals as goal

pub returns : goal.returns
returns c =
    let i = c.self.inside in
    let in_heap : heap_len i.heap ≡ length (heap_items i.heap) = search rules in
    let in_run : vec_len i.run ≡ length i.run.items = search rules in
    record { length = rw (← c.self.view_is) (omega (arith, c.len.ensures, c.len-2.ensures, in_heap, in_run, length-drop i.head i.run.items, c.self.invariant.4, length-queue_of_both (drop i.head i.run.items) (heap_items i.heap))) }
