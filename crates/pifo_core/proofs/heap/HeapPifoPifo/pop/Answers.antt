use Rattle.pifo_core.proofs.Prelude.{arith, List, Held, vec_len, ◌≡◌, ap, ◌∙◌, ◌+◌, false, length, drop, [], sym, true, Some, ◌∷◌, rules, heap_items, heap_len, take_least, held_of_both, TopIsFirst, leads, queue_of, top_of, ◌<◌, Reverse}
use Rattle.std.proofs.lemmas.List.{length-drop}
use Rattle.pifo_core.specs.declared.held.Brief.{Brief}
use Rattle.pifo_core.proofs.HeldLaws.{taking}
use Rattle.pifo_core.proofs.HeapLaws.{queue_of-led, IsHeaped-led, queue_of-neither, queue_of-popped, IsHeaped-popped, top-is, first-is, from_on, first_on}
use Rattle.pifo_core.proofs.heap.HeapPifoPifo.pop.Goals as goal
use Rattle.pifo_core.proofs.heap.HeapPifoPifo.pop.Goals.{After-from}

-- the entries of the run before and after its first one is dequeued
led : (c : goal.After-from) → drop c.self.inside.head c.self.inside.run.items ≡ c.in_ok-first.field-0.now ∷ drop (c.self.inside.head + 1) c.self.inside.run.items
led c =
    first_on c.self.inside.run.items c.self.inside.head c.in_ok-first.field-0.now (rw c.deref.ensures.value at (sym c.in_ok-first.ensures.value))

pub invariant_of-self : goal.invariant_of-self
invariant_of-self c =
    let i = c.self.inside in
    let rest = drop (i.head + 1) i.run.items in
    let items = led c in
    let whole : vec_len i.run ≡ length i.run.items = search rules in
    let one = ap length items in
    let long = length-drop i.head i.run.items in (
      IsHeaped-led c.in_ok-first.field-0.now rest (heap_items i.heap) i.pushed (rw items at c.self.invariant.0),
      omega (arith, c.self.invariant),
      omega (arith, c.self.invariant),
      (rw items at c.self.invariant.3).1,
      omega (arith, whole, one, long),
    )

pub returns-then-run_leads-clause-taken : goal.returns-then-run_leads-clause-taken
returns-then-run_leads-clause-taken c =
    let i = c.self.inside in
    let first = c.in_ok-first.field-0.now in
    let rest = drop (i.head + 1) i.run.items in
    let leading : leads (drop i.head i.run.items) (heap_items i.heap) ≡ true =
    ap (λ (l : List Brief). leads l (heap_items i.heap)) (sym (from_on i.run.items i.head)) ∙ (rw c.deref.ensures.value at (sym c.if-run_leads.ensures.leads)) in
    let top : TopIsFirst (heap_items i.heap) = c.run_leads.ensures.top c.self.invariant.0.in_heap in
    ap (λ v. take_least v.entries) (sym c.self.view_is)
    ∙ ap (λ l. take_least (queue_of (held_of_both l (heap_items i.heap)))) (led c)
    ∙ queue_of-led first rest (heap_items i.heap) i.pushed (rw (led c) at c.self.invariant.0) (rw (led c) at leading) top
    ∙ ap (λ v. Some (record { rank = first.rank; value = v; rest = queue_of (held_of_both rest (heap_items i.heap)) })) (sym c.from.ensures)

pub returns-in_err-top-clause-taken : goal.returns-in_err-top-clause-taken
returns-in_err-top-clause-taken c =
    let i = c.self.inside in
    let queued = drop i.head i.run.items in
    let whole : heap_len i.heap ≡ length (heap_items i.heap) = search rules in
    let behind : leads queued (heap_items i.heap) ≡ false =
    ap (λ (l : List Brief). leads l (heap_items i.heap)) (sym (from_on i.run.items i.head)) ∙ (rw c.deref.ensures.value at (sym c.if-run_leads.ensures.leads)) in
    let none : length (heap_items i.heap) ≡ 0 = search (rules, arith, whole, c.in_err-top.ensures) in
    let empty : queue_of (held_of_both queued (heap_items i.heap)) ≡ [] = queue_of-neither queued (heap_items i.heap) behind none in
    rw c.from_residual-in_err-top.ensures (ap (λ v. v.entries) (sym c.self.view_is) ∙ empty, ap (λ v. v.entries) (sym c.self.view_is) ∙ empty)

pub invariant_of-self-2 : goal.invariant_of-self-2
invariant_of-self-2 c =
    let i = c.self.inside in (
      IsHeaped-popped (top_of (heap_items i.heap)) (drop i.head i.run.items) (heap_items i.heap) (heap_items c.drop_top.new.heap) i.pushed c.self.invariant.0 c.drop_top.ensures.permutation (c.drop_top.ensures.heap_order c.self.invariant.0.in_heap).0,
      omega (arith, c.self.invariant),
      omega (arith, c.drop_top.ensures.len, c.drop_top.ensures.capacity, c.self.invariant),
      c.self.invariant.3,
      c.self.invariant.4,
    )

pub returns-clause-taken : goal.returns-clause-taken
returns-clause-taken c =
    let i = c.self.inside in
    let queued = drop i.head i.run.items in
    let items = heap_items i.heap in
    let whole : heap_len i.heap ≡ length items = search rules in
    let some : 0 < length items = omega (arith, whole, c.drop_top.ensures.len) in
    let behind : leads queued items ≡ false =
    ap (λ (l : List Brief). leads l items) (sym (from_on i.run.items i.head)) ∙ (rw c.deref.ensures.value at (sym c.if-run_leads.ensures.leads)) in
    let is = top-is items _ some c.in_ok-top.ensures.lookup in
    ap (λ v. take_least v.entries) (sym c.self.view_is)
    ∙ queue_of-popped (top_of items) queued items (heap_items c.drop_top.new.heap) i.pushed c.self.invariant.0 c.drop_top.ensures.permutation behind some (first-is items some) (c.drop_top.ensures.below_top c.self.invariant.0.in_heap)
    ∙ ap (λ (t : Reverse Held). Some (taking t.0 (queue_of (held_of_both queued (heap_items c.drop_top.new.heap))))) (sym is)
