use Rattle.policy_text.proofs.Prelude.{ap, sym, ◌∙◌, err_from_is_err_and, repeats_more, repeats_over, repeats_stuck, pure}
use Rattle.policy_text_defs.proofs.TestLaws.{range_shrinks}
use Rattle.policy_text.proofs.LoopLaws.{range_read, range_unread, repeats_at}
use Rattle.policy_text.proofs.Refusals.{refused}
use Rattle.policy_text.proofs.alternatives.ranges_in_a_row.Goals as goal

pub returns-in_err-values-2 : goal.returns-in_err-values-2
returns-in_err-values-2 c =
    let p = err_from_is_err_and c.from_residual-in_err-values-2.result c.from_residual-in_err-values-2.ensures.1 in
    rw (p.1, p.2) (refused _ _ _ (λ none. repeats_stuck _ _ _ _ _ _ _ c.loop-field.invariant c.loop-field-test.ensures (range_unread _ _ _ none)) c.in_err-values-2.ensures)

pub loop-field-smaller : goal.loop-field-smaller
loop-field-smaller c =
    range_shrinks _ _ _ _ _ _ _ c.loop-field-test.ensures (range_read _ c.loop-field.ranges _ _ _ c.in_ok-values-2.ensures)

pub loop-field-preserved : goal.loop-field-preserved
loop-field-preserved c =
    let read = range_read _ c.loop-field.ranges _ _ _ c.in_ok-values-2.ensures in
    repeats_at _ _ _ _ _ _ (repeats_more _ _ _ _ _ _ _ _ _ c.loop-field.invariant c.loop-field-test.ensures read (range_shrinks _ _ _ _ _ _ _ c.loop-field-test.ensures read)) c.in_ok-push-2.ensures.ok

pub returns : goal.returns
returns c = repeats_over _ _ _ _ _ c.loop-field.invariant c.loop-field-test.ensures.0 ∙ ap (pure c.loop-field.ranges) (sym c.loop-field-test.ensures.1)
