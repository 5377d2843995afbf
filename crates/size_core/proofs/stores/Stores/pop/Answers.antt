use Rattle.size_core.proofs.Prelude.{◌≡◌, ◌∙◌, ℕ, length, sym, ap, arith, ◌<◌, true, ◌-◌, deque_items, length-set, get_or-set_same, flow_of, store_popped, head_in, leads}
use Rattle.size_core.proofs.StoreLaws.{same_read, heads-after_pop, after_pop}
use Rattle.size_core.proofs.stores.Stores.pop.Goals as goal

pub overflow_sub-self : goal.overflow_sub-self
overflow_sub-self c =
    let ss = c.self.inside.flows.items in
    let i = c.flow_of-flow.result in
    let old = c.index_mut.result.now in
    let new = c.pop_front.new.self in
    let within : i < length ss = omega (arith, c.flow_of-flow.ensures.within, c.len.ensures, c.self.inside.flows.ok.0) in
    let led : leads c.args.rank (deque_items old) ≡ true = ap (λ s. leads c.args.rank (deque_items s)) (sym (same_read ss i c.index.result.now old within c.index.ensures c.index_mut.ensures.value)) ∙ sym c.leads.ensures ∙ c.if-not-leads.false in
    let read : c.index-2.result.now ≡ new = c.index-2.ensures ∙ get_or-set_same ss i new c.index-2.result.now within in
    let fewer : c.lacks_head.result ≡ 1 - head_in (deque_items new) = c.lacks_head.ensures ∙ ap (λ s. 1 - head_in (deque_items s)) read in
    (heads-after_pop ss i old new within c.index_mut.ensures.value c.self.inside.heads c.lacks_head.result c.args.rank c.self.invariant.0 led fewer).1

pub invariant_of-self-2 : goal.invariant_of-self-2
invariant_of-self-2 c =
    let ss = c.self.inside.flows.items in
    let i = c.flow_of-flow.result in
    let old = c.index_mut.result.now in
    let new = c.pop_front.new.self in
    let within : i < length ss = omega (arith, c.flow_of-flow.ensures.within, c.len.ensures, c.self.inside.flows.ok.0) in
    let led : leads c.args.rank (deque_items old) ≡ true = ap (λ s. leads c.args.rank (deque_items s)) (sym (same_read ss i c.index.result.now old within c.index.ensures c.index_mut.ensures.value)) ∙ sym c.leads.ensures ∙ c.if-not-leads.false in
    let read : c.index-2.result.now ≡ new = c.index-2.ensures ∙ get_or-set_same ss i new c.index-2.result.now within in
    let fewer : c.lacks_head.result ≡ 1 - head_in (deque_items new) = c.lacks_head.ensures ∙ ap (λ s. 1 - head_in (deque_items s)) read in (
      (heads-after_pop ss i old new within c.index_mut.ensures.value c.self.inside.heads c.lacks_head.result c.args.rank c.self.invariant.0 led fewer).0,
      c.self.invariant.1,
      omega (arith, c.self.invariant.2, length-set ss i new),
    )

pub returns : goal.returns
returns c =
    let ss = c.self.inside.flows.items in
    let i = c.flow_of-flow.result in
    let old = c.index_mut.result.now in
    let new = c.pop_front.new.self in
    let within : i < length ss = omega (arith, c.flow_of-flow.ensures.within, c.len.ensures, c.self.inside.flows.ok.0) in
    let led : leads c.args.rank (deque_items old) ≡ true = ap (λ s. leads c.args.rank (deque_items s)) (sym (same_read ss i c.index.result.now old within c.index.ensures c.index_mut.ensures.value)) ∙ sym c.leads.ensures ∙ c.if-not-leads.false in
    let flow : i ≡ flow_of (length ss) c.args.value = c.flow_of-flow.ensures.flow ∙ ap (λ (n : ℕ). flow_of n c.args.value) (c.len.ensures ∙ c.self.inside.flows.ok.0) in
    record {
      popped = after_pop ss i old new within c.index_mut.ensures.value c.self.inside.spilled c.self.inside.most c.args.rank c.args.value flow led c.pop_front.ensures.rest
          ∙ ap (λ s. store_popped c.args.rank c.args.value s) c.self.view_is;
    }
