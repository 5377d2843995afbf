use Rattle.std.proofs.Common.{ap, sym, ◌∙◌, length, map, heap_items, deque_items}
use Rattle.block_core.proofs.BlockLaws.{length-queue_in}
use Rattle.block_core.proofs.block.BlockPifoPifo.len.Goals as goal

pub returns : goal.returns
returns c =
    let i = c.self.inside in
    record {
      length = sym (c.self.invariant.4.all) ∙ sym (length-queue_in (map deque_items i.stores.items) (heap_items i.heads) (heap_items i.spilled) i.pushed c.self.invariant.0) ∙ ap (λ v. length v.entries) c.self.view_is;
    }
