use Rattle.std.proofs.Common.{rules}
use Rattle.pifo_core.proofs.HeldLaws.{queue_of-empty}
use Rattle.pifo_core.proofs.HeapLaws.{IsHeaped-empty}
use Rattle.pifo_core.proofs.heap.HeapPifo.new.Goals as goal

pub invariant_of-result : goal.invariant_of-result
invariant_of-result c = (IsHeaped-empty _ _ c.new.ensures.items c.new-2.ensures.items c.new-2.ensures.heap_order, search rules, search rules, rw c.new.ensures.items tt, search rules)

pub returns-clause-entries : goal.returns-clause-entries
returns-clause-entries c = rw (c.new.ensures.items, c.new-2.ensures.items) queue_of-empty
