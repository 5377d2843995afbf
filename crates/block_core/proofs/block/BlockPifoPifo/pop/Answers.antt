use Rattle.block_core.proofs.Prelude.{arith, ◌≡◌, sym, length, subst, ℕ, ◌∙◌, ap, [], map, ◌+◌, ◌∷◌, deque_items, heap_items, get_or, rules, set, Some, deque_len, ◌-◌, deque_capacity, heap_len, drop, AllByRecursion, Reverse, take_least, weight, Precedes, held, IsBlock, IsCounted, queue_in, all_of, head_of, Waiting}
use Rattle.block_core.proofs.StoreLaws.{IsHeadAt}
use Rattle.block_core.proofs.BlockLaws.{unspilt_is, unspilt_more, unspilt_queue, led_is, led_more, led_queue, head_at, nothing_waits}
use Rattle.block_core.proofs.PartLaws.{store_at, flow_at, within, stores-set, room_at, room_set}
use Rattle.block_core.proofs.block.BlockPifoPifo.pop.Goals as goal

pub invariant_of-self-then-spill_is_first : goal.invariant_of-self-then-spill_is_first
invariant_of-self-then-spill_is_first c =
    let i = c.self.inside in
    let x : Reverse Waiting = c.in_ok-first.field-0 in
    let b = c.self.invariant.0 in
    let first : AllByRecursion (Precedes x.0) (held (heap_items i.heads))
    = subst (λ z. AllByRecursion (Precedes z.0) (held (heap_items i.heads))) (sym c.in_ok-first.ensures.top) (c.spill_is_first.ensures.spill c.if-spill_is_first.true x) in (
      unspilt_is (map deque_items i.stores.items) (heap_items i.heads) (heap_items i.spilled) (heap_items c.pop.new.self) i.pushed x b c.in_ok-first.ensures.permutation (c.in_ok-first.ensures.below_top b.spilled_order) first (c.in_ok-first.ensures.heap_order b.spilled_order).0,
      c.self.invariant.1,
      c.self.invariant.2,
      omega (arith, c.in_ok-first.ensures.len, c.in_ok-first.ensures.capacity, c.self.invariant.3),
      (
          let more : weight (λ _. 1) (all_of (map deque_items i.stores.items) (held (heap_items i.spilled))) ≡ 1 + weight (λ _. 1) (all_of (map deque_items i.stores.items) (held (heap_items c.pop.new.self)))
          = unspilt_more (map deque_items i.stores.items) (heap_items i.heads) (heap_items i.spilled) (heap_items c.pop.new.self) i.pushed x b c.in_ok-first.ensures.permutation (c.in_ok-first.ensures.below_top b.spilled_order) first (c.in_ok-first.ensures.heap_order b.spilled_order).0 (λ _. 1) in
          record { all = omega (arith, more, c.self.invariant.4.all); few = omega (arith, c.self.invariant.4.few) }),
    )

pub returns-then-spill_is_first-clause-taken : goal.returns-then-spill_is_first-clause-taken
returns-then-spill_is_first-clause-taken c =
    let i = c.self.inside in
    let x : Reverse Waiting = c.in_ok-first.field-0 in
    let b = c.self.invariant.0 in
    let first : AllByRecursion (Precedes x.0) (held (heap_items i.heads))
    = subst (λ z. AllByRecursion (Precedes z.0) (held (heap_items i.heads))) (sym c.in_ok-first.ensures.top) (c.spill_is_first.ensures.spill c.if-spill_is_first.true x) in
    ap (λ v. take_least v.entries) (sym c.self.view_is)
    ∙ unspilt_queue (map deque_items i.stores.items) (heap_items i.heads) (heap_items i.spilled) (heap_items c.pop.new.self) i.pushed x b c.in_ok-first.ensures.permutation (c.in_ok-first.ensures.below_top b.spilled_order) first (c.in_ok-first.ensures.heap_order b.spilled_order).0

pub returns-in_err-first-2-clause-taken : goal.returns-in_err-first-2-clause-taken
returns-in_err-first-2-clause-taken c =
    let i = c.self.inside in
    let whole : heap_len i.heads ≡ length (heap_items i.heads) = search rules in
    let empty : queue_in i.pushed (map deque_items i.stores.items) (held (heap_items i.spilled)) ≡ []
    = nothing_waits (map deque_items i.stores.items) (heap_items i.heads) (heap_items i.spilled) i.pushed c.self.invariant.0 (sym whole ∙ c.in_err-first-2.ensures.none) in
    rw c.from_residual-in_err-first-2.ensures (ap (λ v. v.entries) (sym c.self.view_is) ∙ empty, empty)

pub invariant_of-self-2 : goal.invariant_of-self-2
invariant_of-self-2 c =
    let i = c.self.inside in
    let ss = map deque_items i.stores.items in
    let x : Reverse Waiting = c.in_ok-first-2.field-0 in
    let b = c.self.invariant.0 in
    let left = heap_items c.pop-2.new.self in
    let flow = c.flow_of-flow.result in
    let inside = c.flow_of-flow.ensures.within in
    let count : c.len.result ≡ length i.stores.items = omega (arith, c.len.ensures, i.stores.ok.0) in
    let h : IsHeadAt (length ss) 0 ss x.0 = head_at ss (heap_items i.heads) left (heap_items i.spilled) i.pushed x b c.in_ok-first-2.ensures.permutation in
    let same : h.place ≡ flow = omega (arith, h.flow, flow_at deque_items i.stores.items c.len.result flow x.0.value count c.flow_of-flow.ensures.flow) in
    let at : get_or ss flow [] ≡ x.0 ∷ h.rest = subst (λ z. get_or ss z [] ≡ x.0 ∷ h.rest) same h.first in
    let there : get_or ss flow [] ≡ c.index_mut.result.now.items = store_at deque_items i.stores.items c.len.result flow c.index_mut.result.now count inside c.index_mut.ensures.value in
    let rest : drop 1 c.index_mut.result.now.items ≡ h.rest = ap (λ z. drop 1 z) (sym there ∙ at) in
    let heads : (f : Waiting → ℕ) → weight f (held (heap_items c.leave_flow.new.heads)) ≡ weight f (held left) + weight f (head_of h.rest)
    = λ f. subst (λ z. weight f (held (heap_items c.leave_flow.new.heads)) ≡ weight f (held left) + weight f (head_of z)) rest (c.leave_flow.ensures.heads f) in
    let first : AllByRecursion (Precedes x.0) (held (heap_items i.spilled))
    = subst (λ z. AllByRecursion (Precedes z.0) (held (heap_items i.spilled))) (sym c.in_ok-first-2.ensures.top) (c.spill_is_first.ensures.head c.if-spill_is_first.false x) in
    let whole : map deque_items (set i.stores.items flow c.leave_flow.new.store) ≡ set ss flow h.rest = stores-set deque_items i.stores.items flow c.leave_flow.new.store h.rest (c.leave_flow.ensures.items ∙ rest) in (
      subst (λ z. IsBlock z (heap_items c.leave_flow.new.heads) (heap_items i.spilled) i.pushed) (sym whole) (led_is ss (heap_items i.heads) left (heap_items c.leave_flow.new.heads) (heap_items i.spilled) i.pushed x flow h.rest b c.in_ok-first-2.ensures.permutation (c.in_ok-first-2.ensures.below_top b.heads_order) first (within deque_items i.stores.items c.len.result flow count inside) at heads (c.leave_flow.ensures.order (c.in_ok-first-2.ensures.heap_order b.heads_order).0)),
      room_set (λ s. (deque_len s, deque_capacity s)) i.stores.items i.spare i.spare flow c.leave_flow.new.store (omega arith)
          (omega (arith, c.leave_flow.ensures.store_room.0, c.leave_flow.ensures.store_room.1, room_at (λ s. (deque_len s, deque_capacity s)) i.stores.items i.spare c.len.result flow c.index_mut.result.now count inside c.index_mut.ensures.value c.self.invariant.1)) c.self.invariant.1,
      omega (arith, c.in_ok-first-2.ensures.len, c.in_ok-first-2.ensures.capacity, c.leave_flow.ensures.heads_room.0, c.leave_flow.ensures.heads_room.1, c.self.invariant.2),
      c.self.invariant.3,
      (
          let more : weight (λ _. 1) (all_of ss (held (heap_items i.spilled))) ≡ 1 + weight (λ _. 1) (all_of (set ss flow h.rest) (held (heap_items i.spilled))) = led_more ss (heap_items i.heads) left (heap_items c.leave_flow.new.heads) (heap_items i.spilled) i.pushed x flow h.rest b c.in_ok-first-2.ensures.permutation (c.in_ok-first-2.ensures.below_top b.heads_order) first (within deque_items i.stores.items c.len.result flow count inside) at heads (c.leave_flow.ensures.order (c.in_ok-first-2.ensures.heap_order b.heads_order).0) (λ _. 1) in
          subst (λ z. IsCounted (i.waiting - 1) i.pushed z (held (heap_items i.spilled))) (sym whole) (record { all = omega (arith, more, c.self.invariant.4.all); few = omega (arith, c.self.invariant.4.few) })),
    )

pub returns-clause-taken : goal.returns-clause-taken
returns-clause-taken c =
    let i = c.self.inside in
    let ss = map deque_items i.stores.items in
    let x : Reverse Waiting = c.in_ok-first-2.field-0 in
    let b = c.self.invariant.0 in
    let left = heap_items c.pop-2.new.self in
    let flow = c.flow_of-flow.result in
    let inside = c.flow_of-flow.ensures.within in
    let count : c.len.result ≡ length i.stores.items = omega (arith, c.len.ensures, i.stores.ok.0) in
    let h : IsHeadAt (length ss) 0 ss x.0 = head_at ss (heap_items i.heads) left (heap_items i.spilled) i.pushed x b c.in_ok-first-2.ensures.permutation in
    let same : h.place ≡ flow = omega (arith, h.flow, flow_at deque_items i.stores.items c.len.result flow x.0.value count c.flow_of-flow.ensures.flow) in
    let at : get_or ss flow [] ≡ x.0 ∷ h.rest = subst (λ z. get_or ss z [] ≡ x.0 ∷ h.rest) same h.first in
    let there : get_or ss flow [] ≡ c.index_mut.result.now.items = store_at deque_items i.stores.items c.len.result flow c.index_mut.result.now count inside c.index_mut.ensures.value in
    let rest : drop 1 c.index_mut.result.now.items ≡ h.rest = ap (λ z. drop 1 z) (sym there ∙ at) in
    let heads : (f : Waiting → ℕ) → weight f (held (heap_items c.leave_flow.new.heads)) ≡ weight f (held left) + weight f (head_of h.rest)
    = λ f. subst (λ z. weight f (held (heap_items c.leave_flow.new.heads)) ≡ weight f (held left) + weight f (head_of z)) rest (c.leave_flow.ensures.heads f) in
    let first : AllByRecursion (Precedes x.0) (held (heap_items i.spilled))
    = subst (λ z. AllByRecursion (Precedes z.0) (held (heap_items i.spilled))) (sym c.in_ok-first-2.ensures.top) (c.spill_is_first.ensures.head c.if-spill_is_first.false x) in
    let whole : map deque_items (set i.stores.items flow c.leave_flow.new.store) ≡ set ss flow h.rest = stores-set deque_items i.stores.items flow c.leave_flow.new.store h.rest (c.leave_flow.ensures.items ∙ rest) in
    ap (λ v. take_least v.entries) (sym c.self.view_is)
    ∙ led_queue ss (heap_items i.heads) left (heap_items c.leave_flow.new.heads) (heap_items i.spilled) i.pushed x flow h.rest b c.in_ok-first-2.ensures.permutation (c.in_ok-first-2.ensures.below_top b.heads_order) first (within deque_items i.stores.items c.len.result flow count inside) at heads (c.leave_flow.ensures.order (c.in_ok-first-2.ensures.heap_order b.heads_order).0)
    ∙ ap (λ z. Some (record { rank = x.0.rank; value = x.0.value; rest = queue_in i.pushed z (held (heap_items i.spilled)) })) (sym whole)

pub overflow_sub-self-2 : goal.overflow_sub-self-2
overflow_sub-self-2 c =
    let i = c.self.inside in
    let ss = map deque_items i.stores.items in
    let x : Reverse Waiting = c.in_ok-first-2.field-0 in
    let b = c.self.invariant.0 in
    let left = heap_items c.pop-2.new.self in
    let flow = c.flow_of-flow.result in
    let inside = c.flow_of-flow.ensures.within in
    let count : c.len.result ≡ length i.stores.items = omega (arith, c.len.ensures, i.stores.ok.0) in
    let h : IsHeadAt (length ss) 0 ss x.0 = head_at ss (heap_items i.heads) left (heap_items i.spilled) i.pushed x b c.in_ok-first-2.ensures.permutation in
    let same : h.place ≡ flow = omega (arith, h.flow, flow_at deque_items i.stores.items c.len.result flow x.0.value count c.flow_of-flow.ensures.flow) in
    let at : get_or ss flow [] ≡ x.0 ∷ h.rest = subst (λ z. get_or ss z [] ≡ x.0 ∷ h.rest) same h.first in
    let there : get_or ss flow [] ≡ c.index_mut.result.now.items = store_at deque_items i.stores.items c.len.result flow c.index_mut.result.now count inside c.index_mut.ensures.value in
    let rest : drop 1 c.index_mut.result.now.items ≡ h.rest = ap (λ z. drop 1 z) (sym there ∙ at) in
    let heads : (f : Waiting → ℕ) → weight f (held (heap_items c.leave_flow.new.heads)) ≡ weight f (held left) + weight f (head_of h.rest)
    = λ f. subst (λ z. weight f (held (heap_items c.leave_flow.new.heads)) ≡ weight f (held left) + weight f (head_of z)) rest (c.leave_flow.ensures.heads f) in
    let first : AllByRecursion (Precedes x.0) (held (heap_items i.spilled))
    = subst (λ z. AllByRecursion (Precedes z.0) (held (heap_items i.spilled))) (sym c.in_ok-first-2.ensures.top) (c.spill_is_first.ensures.head c.if-spill_is_first.false x) in
    let whole : map deque_items (set i.stores.items flow c.leave_flow.new.store) ≡ set ss flow h.rest = stores-set deque_items i.stores.items flow c.leave_flow.new.store h.rest (c.leave_flow.ensures.items ∙ rest) in
    let more : weight (λ _. 1) (all_of ss (held (heap_items i.spilled))) ≡ 1 + weight (λ _. 1) (all_of (set ss flow h.rest) (held (heap_items i.spilled))) = led_more ss (heap_items i.heads) left (heap_items c.leave_flow.new.heads) (heap_items i.spilled) i.pushed x flow h.rest b c.in_ok-first-2.ensures.permutation (c.in_ok-first-2.ensures.below_top b.heads_order) first (within deque_items i.stores.items c.len.result flow count inside) at heads (c.leave_flow.ensures.order (c.in_ok-first-2.ensures.heap_order b.heads_order).0) (λ _. 1) in
    omega (arith, more, c.self.invariant.4.all)

pub overflow_sub-self : goal.overflow_sub-self
overflow_sub-self c =
    let i = c.self.inside in
    let x : Reverse Waiting = c.in_ok-first.field-0 in
    let b = c.self.invariant.0 in
    let first : AllByRecursion (Precedes x.0) (held (heap_items i.heads))
    = subst (λ z. AllByRecursion (Precedes z.0) (held (heap_items i.heads))) (sym c.in_ok-first.ensures.top) (c.spill_is_first.ensures.spill c.if-spill_is_first.true x) in
    let more : weight (λ _. 1) (all_of (map deque_items i.stores.items) (held (heap_items i.spilled))) ≡ 1 + weight (λ _. 1) (all_of (map deque_items i.stores.items) (held (heap_items c.pop.new.self)))
    = unspilt_more (map deque_items i.stores.items) (heap_items i.heads) (heap_items i.spilled) (heap_items c.pop.new.self) i.pushed x b c.in_ok-first.ensures.permutation (c.in_ok-first.ensures.below_top b.spilled_order) first (c.in_ok-first.ensures.heap_order b.spilled_order).0 (λ _. 1) in
    omega (arith, more, c.self.invariant.4.all)
