use Rattle.sched_core.proofs.Prelude.{arith, ◌≡◌, ap, ◌∙◌, sym, List, packet_among, are_ordered, filled_among, Slot}
use Rattle.sched_core.proofs.SlotLaws.{filled_of, kept-push, kept-skip, take-whole, ordered-in, ordered-out, ordered-kept, count-kept, among-kept}
use Rattle.sched_core.proofs.chunk.Chunk.shrink.Goals as goal
use Rattle.sched_core.proofs.chunk.Chunk.shrink.Goals.{then-is_filled+in_ok-push, else-is_filled}

pub loop-slot-preserved : goal.loop-slot-preserved
loop-slot-preserved c =
    let slots = c.deref-slot-items.result.now in
    let k = c.loop-slot.slot-index in
    elim c.if-is_filled.branch [
      | then-is_filled+in_ok-push w ↦ rw w.kept-is (kept-push slots c.loop-slot.kept.items _ k _ (omega (arith, c.loop-slot-test.true)) (sym c.is_filled.ensures ∙ w.if-is_filled.true) c.loop-slot.invariant w.in_ok-push.ensures.items)
      | else-is_filled w ↦ rw w.kept-is (kept-skip slots c.loop-slot.kept.items k _ (omega (arith, c.loop-slot-test.true)) (sym c.is_filled.ensures ∙ w.if-is_filled.false) c.loop-slot.invariant)
    ]

pub invariant_of-self : goal.invariant_of-self
invariant_of-self c =
    let chunk = c.args.self.now in
    let slots = chunk.slots.items in
    let whole : c.loop-slot.kept.items ≡ filled_of slots = c.loop-slot.invariant ∙ ap filled_of (take-whole _ _ (omega (arith, c.loop-slot-test.false)) ∙ c.deref-slot-items.ensures.value) in
    record {
      ordered = ap (are_ordered 0) whole ∙ ordered-out 0 (filled_of slots) (ordered-kept 0 slots (ordered-in 0 slots chunk.ordered));
      counted = chunk.counted ∙ sym (ap filled_among whole ∙ count-kept slots);
    }

pub returns : goal.returns
returns c =
    let slots = c.args.self.now.slots.items in
    let whole : c.loop-slot.kept.items ≡ filled_of slots = c.loop-slot.invariant ∙ ap filled_of (take-whole _ _ (omega (arith, c.loop-slot-test.false)) ∙ c.deref-slot-items.ensures.value) in
    record { packets = λ n. ap (λ (xs : List Slot). packet_among c.args.self.now.base xs n) whole ∙ among-kept c.args.self.now.base slots n }
