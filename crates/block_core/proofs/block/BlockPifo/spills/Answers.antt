use Rattle.block_core.proofs.Prelude.{arith, ◌≡◌, sym, length, ◌∙◌, ap, [], map, deque_items, heap_items, get_or, nat_lt, length-map, held, queue_in, spills_in, last_rank}
use Rattle.block_core.proofs.BlockLaws.{spills-by_last}
use Rattle.block_core.proofs.PartLaws.{store_at, flow_at, within}
use Rattle.block_core.proofs.block.BlockPifo.spills.Goals as goal

pub returns : goal.returns
returns c =
    let i = c.self.inside in
    let ss = map deque_items i.stores.items in
    let flow = c.flow_of.result in
    let count : c.len.result ≡ length i.stores.items = omega (arith, c.len.ensures, i.stores.ok.0) in
    let read : get_or ss flow [] ≡ c.index.result.now.items = store_at deque_items i.stores.items c.len.result flow c.index.result.now count c.flow_of.ensures.within c.index.ensures in
    c.falls.ensures
    ∙ ap (λ z. nat_lt c.args.rank (last_rank z)) (sym read)
    ∙ spills-by_last ss (heap_items i.heads) (heap_items i.spilled) i.pushed c.args.rank c.args.value flow c.self.invariant.0 (within deque_items i.stores.items c.len.result flow count c.flow_of.ensures.within) (flow_at deque_items i.stores.items c.len.result flow c.args.value count c.flow_of.ensures.flow)
    ∙ ap (λ n. spills_in n c.args.rank c.args.value (queue_in i.pushed ss (held (heap_items i.spilled)))) (length-map i.stores.items deque_items)
    ∙ ap (λ v. spills_in v.flows c.args.rank c.args.value v.entries) c.self.view_is
