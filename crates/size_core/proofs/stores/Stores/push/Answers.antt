use Rattle.size_core.proofs.Prelude.{◌≡◌, ◌∙◌, ℕ, length, sym, ap, List, arith, ◌+◌, ◌<◌, map, false, ◌-◌, nat_lt, set, max, deque_items, length-set, rules, flow_of, Stores, head_in, store_pushed, last_rank}
use Rattle.std.proofs.Math.Seq.{map-set_same}
use Rattle.size_core.proofs.StoreLaws.{same_read, heads-below, heads-after_push, after_push}
use Rattle.size_core.proofs.stores.Stores.push.Goals as goal

pub invariant_of-self : goal.invariant_of-self
invariant_of-self c =
    let ss = c.self.inside.flows.items in
    let i = c.flow_of-flow.result in
    let same = map-set_same deque_items ss i c.store_rank.new.store c.index_mut.result.now (c.in_err-stored.ensures.err ∙ ap (λ s. deque_items s) c.index_mut.ensures.value) in
    (c.self.invariant.0 ∙ ap (λ z. Rattle.size_core.specs.Stores.heads_in z) (sym same), c.self.invariant.1, omega (arith, c.self.invariant.2, length-set ss i c.store_rank.new.store))

pub returns-in_err-stored-clause-err : goal.returns-in_err-stored-clause-err
returns-in_err-stored-clause-err c =
    let ss = c.self.inside.flows.items in
    let i = c.flow_of-flow.result in
    let made : List (List ℕ) → Stores = λ flows. record { flows = flows; spilled = c.self.inside.spilled; most = c.self.inside.most } in
    let same = map-set_same deque_items ss i c.store_rank.new.store c.index_mut.result.now (c.in_err-stored.ensures.err ∙ ap (λ s. deque_items s) c.index_mut.ensures.value) in
    let stays : made (map deque_items (set ss i c.store_rank.new.store)) ≡ c.args.self.now = ap made same ∙ c.self.view_is in
    search (rules, stays)

pub overflow_add-self : goal.overflow_add-self
overflow_add-self c =
    let ss = c.self.inside.flows.items in
    omega (arith, c.self.invariant.0, heads-below ss, c.lacks_head-more.ensures, c.self.inside.flows.ok.0, c.self.inside.flows.ok.1, c.self.inside.flows.small)

pub invariant_of-self-2 : goal.invariant_of-self-2
invariant_of-self-2 c =
    let ss = c.self.inside.flows.items in
    let i = c.flow_of-flow.result in
    let old = c.index_mut.result.now in
    let within : i < length ss = omega (arith, c.flow_of-flow.ensures.within, c.len.ensures, c.self.inside.flows.ok.0) in
    let more : c.lacks_head-more.result ≡ 1 - head_in (deque_items old) = c.lacks_head-more.ensures ∙ ap (λ s. 1 - head_in (deque_items s)) (same_read ss i c.index-2.result.now old within c.index-2.ensures c.index_mut.ensures.value) in (
      heads-after_push ss i old c.store_rank.new.store within c.index_mut.ensures.value c.self.inside.heads c.lacks_head-more.result c.args.rank c.self.invariant.0 more c.in_ok-stored.ensures.items,
      c.self.invariant.1,
      omega (arith, c.self.invariant.2, length-set ss i c.store_rank.new.store),
    )

pub returns-clause-pushed : goal.returns-clause-pushed
returns-clause-pushed c =
    let ss = c.self.inside.flows.items in
    let i = c.flow_of-flow.result in
    let old = c.index_mut.result.now in
    let new = c.store_rank.new.store in
    let most = c.self.inside.most in
    let within : i < length ss = omega (arith, c.flow_of-flow.ensures.within, c.len.ensures, c.self.inside.flows.ok.0) in
    let more : c.lacks_head-more.result ≡ 1 - head_in (deque_items old) = c.lacks_head-more.ensures ∙ ap (λ s. 1 - head_in (deque_items s)) (same_read ss i c.index-2.result.now old within c.index-2.ensures c.index_mut.ensures.value) in
    let heads = heads-after_push ss i old new within c.index_mut.ensures.value c.self.inside.heads c.lacks_head-more.result c.args.rank c.self.invariant.0 more c.in_ok-stored.ensures.items in
    let flow : i ≡ flow_of (length ss) c.args.value = c.flow_of-flow.ensures.flow ∙ ap (λ (n : ℕ). flow_of n c.args.value) (c.len.ensures ∙ c.self.inside.flows.ok.0) in
    let stays : nat_lt c.args.rank (last_rank (deque_items old)) ≡ false = ap (λ s. nat_lt c.args.rank (last_rank (deque_items s))) (sym (same_read ss i c.index.result.now old within c.index.ensures c.index_mut.ensures.value)) ∙ sym c.falls.ensures ∙ c.if-falls.false in
    let made : ℕ → ℕ → Stores = λ heads stored. record { flows = map deque_items (set ss i new); spilled = c.self.inside.spilled; most = record { heads = heads; stored = stored; spilled = most.spilled; spills = most.spills } } in
    ap (λ (x : ℕ). made x c.max-self-inside-2.result) c.max-self-inside.ensures
    ∙ ap (λ (x : ℕ). made (max most.heads (c.self.inside.heads + c.lacks_head-more.result)) x) c.max-self-inside-2.ensures
    ∙ after_push ss i old new within c.index_mut.ensures.value c.self.inside.spilled most c.args.rank c.args.value flow stays c.in_ok-stored.ensures.items
    (c.self.inside.heads + c.lacks_head-more.result) c.in_ok-stored.stored heads c.in_ok-stored.ensures.stored
    ∙ ap (λ s. store_pushed c.args.rank c.args.value s) c.self.view_is
