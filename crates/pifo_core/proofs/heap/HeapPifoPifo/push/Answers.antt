use Rattle.pifo_core.proofs.Prelude.{arith, rules, ◌≡◌, ap, ◌∙◌, ◌≤◌, refl, ◌+◌, ◌++◌, ◌∷◌, [], subst, length, drop, List, vec_len, vec_capacity, heap_items, heap_len, Reverse, put, held_of_both, IsHeaped, IsUpTo, queue_of, Held}
use Rattle.std.specs.BinaryHeap.{heap_capacity}
use Rattle.std.proofs.Math.Seq.{drop-append-le}
use Rattle.pifo_core.specs.declared.held.Brief.{Brief}
use Rattle.pifo_core.proofs.HeapLaws.{queue_of-followed, IsHeaped-followed, queue_of-pushed, IsHeaped-pushed, IsUpTo-followed, from_on}
use Rattle.pifo_core.proofs.heap.HeapPifoPifo.push.Goals as goal
use Rattle.pifo_core.proofs.heap.HeapPifoPifo.push.Goals.{then-self-most+then-value-most+then-is_behind, else-self-most}

entry : goal.After-self-3-1 → Held
entry c = record { rank = c.args.rank; arrival = c.self.inside.pushed; value = c.args.value }

record Pushed (c : goal.After-self-3-1) : Type 0 where
  kept : IsHeaped (drop c.if-self-most.self-inside.head c.if-self-most.self-inside.run.items) (heap_items c.if-self-most.self-inside.heap) (c.if-self-most.self-inside.pushed + 1)
  put_last : queue_of (held_of_both (drop c.if-self-most.self-inside.head c.if-self-most.self-inside.run.items) (heap_items c.if-self-most.self-inside.heap)) ≡ put (queue_of (held_of_both (drop c.self.inside.head c.self.inside.run.items) (heap_items c.self.inside.heap))) c.args.rank c.args.value
  in_run : vec_len c.if-self-most.self-inside.run + c.self.inside.spare ≤ vec_capacity c.if-self-most.self-inside.run + 1
  in_heap : heap_len c.if-self-most.self-inside.heap + c.self.inside.spare ≤ heap_capacity c.if-self-most.self-inside.heap + 1
  spare : c.if-self-most.self-inside.spare ≡ c.self.inside.spare
  last : IsUpTo c.if-self-most.self-inside.last (drop c.if-self-most.self-inside.head c.if-self-most.self-inside.run.items)
  head : c.if-self-most.self-inside.head ≤ vec_len c.if-self-most.self-inside.run

pushed : (c : goal.After-self-3-1) → Pushed c
unfolding entry
pushed c =
    let i = c.self.inside in
    let queued = drop i.head i.run.items in
    let kept : IsHeaped queued (heap_items i.heap) i.pushed = c.self.invariant.0 in
    elim c.if-self-most.branch [
      | then-self-most+then-value-most+then-is_behind w ↦
          let b : Brief = record { rank = c.args.rank; arrival = i.pushed; value = c.args.value } in
          let before : IsUpTo c.args.rank queued = subst (λ (l : List Brief). IsUpTo c.args.rank l) (from_on i.run.items i.head) (rw w.deref.ensures.value at (w.is_behind.ensures.behind w.if-is_behind.true)) in
          let whole : vec_len i.run ≡ length i.run.items = search rules in
          let items : drop i.head w.push_reserved.new.self.items ≡ queued ++ b ∷ [] = ap (drop i.head) w.push_reserved.ensures.items ∙ drop-append-le i.head i.run.items (b ∷ []) (omega (arith, whole, c.self.invariant.4)) in
          record {
            kept = rw (w.self-inside-is, items) (IsHeaped-followed (entry c) b refl queued (heap_items i.heap) kept before);
            put_last = rw (w.self-inside-is, items) (queue_of-followed (entry c) b refl queued (heap_items i.heap) kept before);
            in_run = rw w.self-inside-is (omega (arith, w.push_reserved.ensures.len, c.self.invariant.1, w.push_reserved.ensures.capacity));
            in_heap = rw w.self-inside-is (omega (arith, c.self.invariant.2));
            spare = rw w.self-inside-is;
            last = rw (w.self-inside-is, items) (IsUpTo-followed b queued before);
            head = rw w.self-inside-is (omega (arith, w.push_reserved.ensures.len, c.self.invariant.4));
          }
      | else-self-most w ↦
          let top : Reverse Held = record { 0 = entry c } in
          let p = w.push_aside.ensures in
          record {
            kept = rw w.self-inside-is (IsHeaped-pushed top queued (heap_items i.heap) (heap_items w.push_aside.new.heap) kept p.permutation (p.heap_order kept.in_heap));
            put_last = rw w.self-inside-is (queue_of-pushed top queued (heap_items i.heap) (heap_items w.push_aside.new.heap) kept p.permutation);
            in_run = rw w.self-inside-is (omega (arith, c.self.invariant.1));
            in_heap = rw w.self-inside-is (omega (arith, p.len, c.self.invariant.2, p.capacity));
            spare = rw w.self-inside-is;
            last = rw w.self-inside-is c.self.invariant.3;
            head = rw w.self-inside-is c.self.invariant.4;
          }
    ]

pub invariant_of-self : goal.invariant_of-self
invariant_of-self c =
    let room : 1 ≤ c.self.inside.spare = rw (← c.self.view_is) at c.requires.room in
    let p : Pushed c = pushed c in
    (p.kept, omega (arith, p.in_run, p.spare, room), omega (arith, p.in_heap, p.spare, room), p.last, p.head)

pub returns-clause-entries : goal.returns-clause-entries
returns-clause-entries c = (pushed c).put_last ∙ ap (λ v. put v.entries c.args.rank c.args.value) c.self.view_is
