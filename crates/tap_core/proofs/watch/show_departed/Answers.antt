use Rattle.tap_core.proofs.Prelude.{◌≡◌, length, ◌<◌, rules, ◌≤◌, None, Some, arith, set-get_or, slice_get}
use Rattle.tap_core.proofs.SlotLaws.{none_at, said_at}
use Rattle.tap_core.proofs.Passes.{pass_said, pass_more, pass_done, pass_finds, pass_left, pass_tracked}
use Rattle.tap_core.proofs.watch.show_departed.Goals as goal
use Rattle.tap_core.proofs.watch.show_departed.Goals.{then-is_none+in-Some+in-More, then-is_none+in-Some+in-Done+in_ok-line_of-in-Done, else-is_none}

pub loop-slot-preserved : goal.loop-slot-preserved
loop-slot-preserved g c =
    elim c.if-is_none.branch [
      | then-is_none+in-Some+in-More w ↦
          let at : slice_get c.loop-slot.slots c.loop-slot.slot-index ≡ Some None = none_at c.loop-slot.slots _ c.slot-item.result (search rules) c.slot-item.is (search rules)
          in let inside : c.loop-slot.i < length c.loop-slot.taps.items = search rules
          in rw (w.slots-is, set-get_or, w.taps-is, w.i-is) (pass_more _ _ _ _ _ _ _ _ _ _ w.in-Some.tap.now c.loop-slot.invariant at inside w.in-Some.ensures.value w.show_departure_to.ensures.after (grind arith))
      | then-is_none+in-Some+in-Done+in_ok-line_of-in-Done w ↦
          let at : slice_get c.loop-slot.slots c.loop-slot.slot-index ≡ Some None = none_at c.loop-slot.slots _ c.slot-item.result (search rules) c.slot-item.is (search rules)
          in let inside : c.loop-slot.i < length c.loop-slot.taps.items = search rules
          in rw (w.slots-is, w.taps-is, w.i-is, w.remove.ensures.items) (pass_done _ _ _ _ _ _ _ _ _ _ w.in-Some.tap.now w.in_ok-line_of-in-Done.field-0 c.loop-slot.invariant at inside w.in-Some.ensures.value w.show_departure_to.ensures.after (grind arith) (grind arith) w.in_ok-line_of-in-Done.ensures)
      | else-is_none w ↦
          let at = said_at c.loop-slot.slots _ c.slot-item.result (search rules) c.slot-item.is (search rules)
          in rw (w.slots-is, set-get_or, w.taps-is, w.i-is) (pass_said _ _ _ _ _ _ _ _ _ at.0 c.loop-slot.invariant at.1)
    ]

pub returns-in_default-clause-left : goal.returns-in_default-clause-left
returns-in_default-clause-left g c =
    let at : slice_get c.loop-slot.slots c.loop-slot.slot-index ≡ Some None = none_at c.loop-slot.slots _ c.slot-item.result (search rules) c.slot-item.is (search rules)
    in let past : length c.loop-slot.taps.items ≤ c.loop-slot.i = search rules
    in λ all start. absurd (pass_finds _ _ _ _ _ _ _ _ _ c.loop-slot.invariant at past all start)

pub returns-in_default-clause-tracked : goal.returns-in_default-clause-tracked
returns-in_default-clause-tracked g c =
    let at : slice_get c.loop-slot.slots c.loop-slot.slot-index ≡ Some None = none_at c.loop-slot.slots _ c.slot-item.result (search rules) c.slot-item.is (search rules)
    in let past : length c.loop-slot.taps.items ≤ c.loop-slot.i = search rules
    in λ all start. absurd (pass_finds _ _ _ _ _ _ _ _ _ c.loop-slot.invariant at past all start)

pub returns-clause-tracked : goal.returns-clause-tracked
returns-clause-tracked g c = pass_tracked _ _ _ _ _ _ _ _ _ c.loop-slot.invariant (search rules)

pub returns-clause-left : goal.returns-clause-left
returns-clause-left g c = pass_left _ _ _ _ _ _ _ _ _ c.loop-slot.invariant (search rules)
