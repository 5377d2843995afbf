use Rattle.block_core.proofs.Prelude.{arith, sym, subst, map, deque_items, heap_items, held, IsBlock, IsCounted}
use Rattle.block_core.proofs.block.BlockPifoPifo.reserve.Goals as goal

pub invariant_of-self : goal.invariant_of-self
invariant_of-self c =
    let i = c.self.inside in (
      subst (λ z. IsBlock z (heap_items i.heads) (heap_items i.spilled) i.pushed) (sym c.reserve_each.ensures.items) c.self.invariant.0,
      c.reserve_each.ensures.kept i.spare c.self.invariant.1,
      c.self.invariant.2,
      c.self.invariant.3,
      subst (λ z. IsCounted i.waiting i.pushed z (held (heap_items i.spilled))) (sym c.reserve_each.ensures.items) c.self.invariant.4,
    )

pub invariant_of-self-in_err-reserve : goal.invariant_of-self-in_err-reserve
invariant_of-self-in_err-reserve c =
    let i = c.self.inside in (
      subst (λ z. IsBlock z (heap_items c.reserve.new.self) (heap_items i.spilled) i.pushed) (sym c.reserve_each.ensures.items)
          (subst (λ z. IsBlock (map deque_items i.stores.items) z (heap_items i.spilled) i.pushed) (sym c.reserve.ensures.items) c.self.invariant.0),
      c.reserve_each.ensures.kept i.spare c.self.invariant.1,
      omega (arith, c.reserve.ensures.len, c.reserve.ensures.capacity, c.self.invariant.2),
      c.self.invariant.3,
      subst (λ z. IsCounted i.waiting i.pushed z (held (heap_items i.spilled))) (sym c.reserve_each.ensures.items) c.self.invariant.4,
    )

pub invariant_of-self-in_err-reserve-2 : goal.invariant_of-self-in_err-reserve-2
invariant_of-self-in_err-reserve-2 c =
    let i = c.self.inside in (
      subst (λ z. IsBlock z (heap_items c.reserve.new.self) (heap_items c.reserve-2.new.self) i.pushed) (sym c.reserve_each.ensures.items)
          (subst (λ z. IsBlock (map deque_items i.stores.items) z (heap_items c.reserve-2.new.self) i.pushed) (sym c.reserve.ensures.items)
          (subst (λ z. IsBlock (map deque_items i.stores.items) (heap_items i.heads) z i.pushed) (sym c.reserve-2.ensures.items) c.self.invariant.0)),
      c.reserve_each.ensures.kept i.spare c.self.invariant.1,
      omega (arith, c.reserve.ensures.len, c.reserve.ensures.capacity, c.self.invariant.2),
      omega (arith, c.reserve-2.ensures.len, c.reserve-2.ensures.capacity, c.self.invariant.3),
      subst (λ z. IsCounted i.waiting i.pushed z (held (heap_items c.reserve-2.new.self))) (sym c.reserve_each.ensures.items)
          (subst (λ z. IsCounted i.waiting i.pushed (map deque_items i.stores.items) (held z)) (sym c.reserve-2.ensures.items) c.self.invariant.4),
    )
