use Rattle.tap_core.proofs.Prelude.{◌≡◌, ◌∙◌, ap, ◌++◌, length, ◌<◌, rules, ◌≤◌, None, Some, slice_get}
use Rattle.tap_core.proofs.SlotLaws.{slot_at}
use Rattle.tap_core.proofs.Passes.{past_line, past_waiting, lines_find, lines_at_end}
use Rattle.tap_core.proofs.watch.lines.Goals as goal
use Rattle.tap_core.proofs.watch.lines.Goals.{in-Some+in_ok-extend_from_slice-in-Some, in-None+in-Some-get+in_ok-append_line_of-in-None}

pub loop-slot-preserved : goal.loop-slot-preserved
loop-slot-preserved g c =
    elim c.match-slot.branch [
      | in-Some+in_ok-extend_from_slice-in-Some w ↦
          let at : slice_get c.args.slots.now c.loop-slot.slot-index ≡ Some (Some w.in-Some.said) = slot_at c.args.slots.now _ c.slot-item.result (search rules) c.slot-item.is ∙ ap Some w.in-Some.is
          in rw (w.text-is, w.i-is) (past_line _ _ _ _ _ _ _ _ w.in-Some.said c.loop-slot.invariant at (w.in_ok-extend_from_slice-in-Some.ensures.items ∙ ap (λ s. c.loop-slot.text.items ++ s) w.deref.ensures.value))
      | in-None+in-Some-get+in_ok-append_line_of-in-None w ↦
          let at : slice_get c.args.slots.now c.loop-slot.slot-index ≡ Some None = slot_at c.args.slots.now _ c.slot-item.result (search rules) c.slot-item.is ∙ ap Some w.in-None.is
          in let inside : c.loop-slot.i < length c.args.taps.now = search rules
          in rw (w.text-is, w.i-is) (past_waiting _ _ _ _ _ _ _ _ w.in-Some-get.tap.now c.loop-slot.invariant at inside w.in-Some-get.ensures.lookup.1 w.in_ok-append_line_of-in-None.ensures)
    ]

pub returns-in_default : goal.returns-in_default
returns-in_default g c =
    let at : slice_get c.args.slots.now c.loop-slot.slot-index ≡ Some None = slot_at c.args.slots.now _ c.slot-item.result (search rules) c.slot-item.is ∙ ap Some c.in-None.is
    in let past : length c.args.taps.now ≤ c.loop-slot.i = search rules
    in record { text = λ all start. absurd (lines_find _ _ _ _ _ _ _ c.loop-slot.invariant at past all start) }

pub returns : goal.returns
returns g c = record { text = lines_at_end _ _ _ _ _ _ _ c.loop-slot.invariant (search rules) }
