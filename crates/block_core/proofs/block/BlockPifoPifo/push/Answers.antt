use Rattle.block_core.proofs.Prelude.{arith, ◌≡◌, sym, length, subst, ℕ, ◌∙◌, ap, [], refl, map, ◌+◌, ◌<◌, ◌∷◌, deque_items, heap_items, get_or, rules, ◌++◌, ◌≤◌, deque_len, ◌-◌, IsOk, deque_capacity, heap_len, nat_tests, KeepsHeap, IsPermutation, Reverse, put, weight, held, IsBlock, IsCounted, queue_in, IsPassed, heap_order, head_of, last_rank, Waiting}
use Rattle.block_core.proofs.BlockLaws.{spilt_is, spilt_more, spilt_queue, stored_is, stored_more, stored_queue}
use Rattle.block_core.proofs.PartLaws.{store_at, flow_at, within, passed_at, stores-set, spare_less, room_at, room_set}
use Rattle.block_core.proofs.block.BlockPifoPifo.push.Goals as goal

pub invariant_of-self : goal.invariant_of-self
invariant_of-self c =
    let i = c.self.inside in
    let x : Reverse Waiting = record { 0 = record { rank = c.args.rank; arrival = i.pushed; value = c.args.value } } in
    let room : 1 ≤ i.spare = rw (← c.self.view_is) at c.requires.room in
    let fits : IsOk c.push.result = c.push.ensures.succeeds (omega (arith, room, c.self.invariant.3)) in
    let moved : IsPermutation (x ∷ heap_items i.spilled) (heap_items c.push.new.self) = search (rules, fits, c.push.ensures.permutation) in
    let ordered : KeepsHeap heap_order (heap_items i.spilled) (heap_items c.push.new.self) = search (rules, fits, c.push.ensures.heap_order) in
    let longer : heap_len c.push.new.self ≡ heap_len i.spilled + 1 = search (rules, fits, c.push.ensures.len) in
    let below : c.args.rank < last_rank c.index.result.now.items = grind (arith, nat_tests, c.falls.ensures, c.if-falls.true) in
    let low : IsPassed (map deque_items i.stores.items) x.0
    = passed_at deque_items i.stores.items c.len.result c.flow_of-flow.result c.args.value x.0 c.index.result.now refl (omega (arith, c.len.ensures, i.stores.ok.0)) c.flow_of-flow.ensures.flow c.flow_of-flow.ensures.within c.index.ensures below in (
      spilt_is (map deque_items i.stores.items) (heap_items i.heads) (heap_items i.spilled) (heap_items c.push.new.self) x c.self.invariant.0 moved low (ordered c.self.invariant.0.spilled_order),
      spare_less i.spare (i.spare - 1) _ (omega arith) c.self.invariant.1,
      omega (arith, c.self.invariant.2),
      omega (arith, room, longer, c.self.invariant.3, c.push.ensures.capacity),
      record {
        all = omega (arith, c.self.invariant.4.all, spilt_more (map deque_items i.stores.items) (heap_items i.heads) (heap_items i.spilled) (heap_items c.push.new.self) x c.self.invariant.0 moved low (ordered c.self.invariant.0.spilled_order) (λ _. 1));
        few = omega (arith, c.self.invariant.4.few);
      },
    )

pub returns-then-falls-clause-entries : goal.returns-then-falls-clause-entries
returns-then-falls-clause-entries c =
    let i = c.self.inside in
    let x : Reverse Waiting = record { 0 = record { rank = c.args.rank; arrival = i.pushed; value = c.args.value } } in
    let room : 1 ≤ i.spare = rw (← c.self.view_is) at c.requires.room in
    let fits : IsOk c.push.result = c.push.ensures.succeeds (omega (arith, room, c.self.invariant.3)) in
    let moved : IsPermutation (x ∷ heap_items i.spilled) (heap_items c.push.new.self) = search (rules, fits, c.push.ensures.permutation) in
    let ordered : KeepsHeap heap_order (heap_items i.spilled) (heap_items c.push.new.self) = search (rules, fits, c.push.ensures.heap_order) in
    let below : c.args.rank < last_rank c.index.result.now.items = grind (arith, nat_tests, c.falls.ensures, c.if-falls.true) in
    let low : IsPassed (map deque_items i.stores.items) x.0
    = passed_at deque_items i.stores.items c.len.result c.flow_of-flow.result c.args.value x.0 c.index.result.now refl (omega (arith, c.len.ensures, i.stores.ok.0)) c.flow_of-flow.ensures.flow c.flow_of-flow.ensures.within c.index.ensures below in
    spilt_queue (map deque_items i.stores.items) (heap_items i.heads) (heap_items i.spilled) (heap_items c.push.new.self) x c.self.invariant.0 moved low (ordered c.self.invariant.0.spilled_order)
    ∙ ap (λ v. put v.entries c.args.rank c.args.value) c.self.view_is

pub join_flow-requires-clause-store_room : goal.join_flow-requires-clause-store_room
join_flow-requires-clause-store_room c =
    let i = c.self.inside in
    let room : 1 ≤ i.spare = rw (← c.self.view_is) at c.requires.room in
    omega (arith, room, room_at (λ s. (deque_len s, deque_capacity s)) i.stores.items i.spare c.len.result c.flow_of-flow.result c.index_mut.result.now (omega (arith, c.len.ensures, i.stores.ok.0)) c.flow_of-flow.ensures.within c.index_mut.ensures.value c.self.invariant.1)

pub invariant_of-self-2 : goal.invariant_of-self-2
invariant_of-self-2 c =
    let i = c.self.inside in
    let ss = map deque_items i.stores.items in
    let flow = c.flow_of-flow.result in
    let x : Waiting = record { rank = c.args.rank; arrival = i.pushed; value = c.args.value } in
    let room : 1 ≤ i.spare = rw (← c.self.view_is) at c.requires.room in
    let count : c.len.result ≡ length i.stores.items = omega (arith, c.len.ensures, i.stores.ok.0) in
    let kept : last_rank c.index.result.now.items ≤ c.args.rank = grind (arith, nat_tests, c.falls.ensures, c.if-falls.false) in
    let read : get_or ss flow [] ≡ c.index.result.now.items = store_at deque_items i.stores.items c.len.result flow c.index.result.now count c.flow_of-flow.ensures.within c.index.ensures in
    let there : get_or ss flow [] ≡ c.index_mut.result.now.items = store_at deque_items i.stores.items c.len.result flow c.index_mut.result.now count c.flow_of-flow.ensures.within c.index_mut.ensures.value in
    let low : last_rank (get_or ss flow []) ≤ c.args.rank = subst (λ z. last_rank z ≤ c.args.rank) (sym read) kept in
    let heads : (f : Waiting → ℕ) → weight f (held (heap_items c.join_flow.new.heads)) + weight f (head_of (get_or ss flow [])) ≡ weight f (held (heap_items i.heads)) + weight f (head_of (get_or ss flow [] ++ x ∷ []))
    = λ f. subst (λ z. weight f (held (heap_items c.join_flow.new.heads)) + weight f (head_of z) ≡ weight f (held (heap_items i.heads)) + weight f (head_of (z ++ x ∷ []))) (sym there) (c.join_flow.ensures.heads f) in (
      subst (λ z. IsBlock z (heap_items c.join_flow.new.heads) (heap_items i.spilled) (i.pushed + 1)) (sym (stores-set deque_items i.stores.items flow c.join_flow.new.store (get_or ss flow [] ++ x ∷ []) (c.join_flow.ensures.items ∙ ap (λ z. z ++ x ∷ []) (sym there))))
          (stored_is ss (heap_items i.heads) (heap_items c.join_flow.new.heads) (heap_items i.spilled) x flow c.self.invariant.0 (flow_at deque_items i.stores.items c.len.result flow c.args.value count c.flow_of-flow.ensures.flow) (within deque_items i.stores.items c.len.result flow count c.flow_of-flow.ensures.within) low heads (c.join_flow.ensures.order c.self.invariant.0.heads_order)),
      room_set (λ s. (deque_len s, deque_capacity s)) i.stores.items i.spare (i.spare - 1) flow c.join_flow.new.store (omega arith)
          (omega (arith, room, c.join_flow.ensures.store_room.0, c.join_flow.ensures.store_room.1, room_at (λ s. (deque_len s, deque_capacity s)) i.stores.items i.spare c.len.result flow c.index_mut.result.now count c.flow_of-flow.ensures.within c.index_mut.ensures.value c.self.invariant.1)) c.self.invariant.1,
      omega (arith, room, c.join_flow.ensures.heads_room.0, c.join_flow.ensures.heads_room.1, c.self.invariant.2),
      omega (arith, c.self.invariant.3),
      subst (λ z. IsCounted (i.waiting + 1) (i.pushed + 1) z (held (heap_items i.spilled))) (sym (stores-set deque_items i.stores.items flow c.join_flow.new.store (get_or ss flow [] ++ x ∷ []) (c.join_flow.ensures.items ∙ ap (λ z. z ++ x ∷ []) (sym there)))) (record {
        all = omega (arith, c.self.invariant.4.all, stored_more ss (heap_items i.heads) (heap_items c.join_flow.new.heads) (heap_items i.spilled) x flow c.self.invariant.0 (flow_at deque_items i.stores.items c.len.result flow c.args.value count c.flow_of-flow.ensures.flow) (within deque_items i.stores.items c.len.result flow count c.flow_of-flow.ensures.within) low heads (c.join_flow.ensures.order c.self.invariant.0.heads_order) (λ _. 1));
        few = omega (arith, c.self.invariant.4.few);
      }),
    )

pub returns-clause-entries : goal.returns-clause-entries
returns-clause-entries c =
    let i = c.self.inside in
    let ss = map deque_items i.stores.items in
    let flow = c.flow_of-flow.result in
    let x : Waiting = record { rank = c.args.rank; arrival = i.pushed; value = c.args.value } in
    let count : c.len.result ≡ length i.stores.items = omega (arith, c.len.ensures, i.stores.ok.0) in
    let kept : last_rank c.index.result.now.items ≤ c.args.rank = grind (arith, nat_tests, c.falls.ensures, c.if-falls.false) in
    let read : get_or ss flow [] ≡ c.index.result.now.items = store_at deque_items i.stores.items c.len.result flow c.index.result.now count c.flow_of-flow.ensures.within c.index.ensures in
    let there : get_or ss flow [] ≡ c.index_mut.result.now.items = store_at deque_items i.stores.items c.len.result flow c.index_mut.result.now count c.flow_of-flow.ensures.within c.index_mut.ensures.value in
    let low : last_rank (get_or ss flow []) ≤ c.args.rank = subst (λ z. last_rank z ≤ c.args.rank) (sym read) kept in
    let heads : (f : Waiting → ℕ) → weight f (held (heap_items c.join_flow.new.heads)) + weight f (head_of (get_or ss flow [])) ≡ weight f (held (heap_items i.heads)) + weight f (head_of (get_or ss flow [] ++ x ∷ []))
    = λ f. subst (λ z. weight f (held (heap_items c.join_flow.new.heads)) + weight f (head_of z) ≡ weight f (held (heap_items i.heads)) + weight f (head_of (z ++ x ∷ []))) (sym there) (c.join_flow.ensures.heads f) in
    ap (λ z. queue_in (i.pushed + 1) z (held (heap_items i.spilled))) (stores-set deque_items i.stores.items flow c.join_flow.new.store (get_or ss flow [] ++ x ∷ []) (c.join_flow.ensures.items ∙ ap (λ z. z ++ x ∷ []) (sym there)))
    ∙ stored_queue ss (heap_items i.heads) (heap_items c.join_flow.new.heads) (heap_items i.spilled) x flow c.self.invariant.0 (flow_at deque_items i.stores.items c.len.result flow c.args.value count c.flow_of-flow.ensures.flow) (within deque_items i.stores.items c.len.result flow count c.flow_of-flow.ensures.within) low heads (c.join_flow.ensures.order c.self.invariant.0.heads_order)
    ∙ ap (λ v. put v.entries c.args.rank c.args.value) c.self.view_is
