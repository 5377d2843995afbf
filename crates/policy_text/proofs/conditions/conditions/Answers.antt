use Rattle.policy_text.proofs.Prelude.{ap, sym, ◌∙◌, err_from_is_err_and, repeats_more, repeats_over, repeats_stuck, pure}
use Rattle.policy_text_defs.proofs.GuardLaws.{condition_shrinks}
use Rattle.policy_text.proofs.LoopLaws.{condition_read, condition_unread, repeats_at}
use Rattle.policy_text.proofs.Refusals.{refused}
use Rattle.policy_text.proofs.conditions.conditions.Goals as goal

pub returns-in_err-condition-2 : goal.returns-in_err-condition-2
returns-in_err-condition-2 c =
    let p = err_from_is_err_and c.from_residual-in_err-condition-2.result c.from_residual-in_err-condition-2.ensures.1 in
    rw (p.1, p.2) (refused _ _ _ (λ none. repeats_stuck _ _ _ _ _ _ _ c.loop-conditions.invariant c.loop-conditions-test.ensures (condition_unread _ _ none)) c.in_err-condition-2.ensures)

pub loop-conditions-smaller : goal.loop-conditions-smaller
loop-conditions-smaller c =
    condition_shrinks _ _ _ _ _ _ c.loop-conditions-test.ensures (condition_read c.loop-conditions.conditions _ _ _ c.in_ok-condition-2.ensures)

pub loop-conditions-preserved : goal.loop-conditions-preserved
loop-conditions-preserved c =
    let read = condition_read c.loop-conditions.conditions _ _ _ c.in_ok-condition-2.ensures in
    repeats_at _ _ _ _ _ _ (repeats_more _ _ _ _ _ _ _ _ _ c.loop-conditions.invariant c.loop-conditions-test.ensures read (condition_shrinks _ _ _ _ _ _ c.loop-conditions-test.ensures read)) c.in_ok-push-2.ensures.ok

pub returns : goal.returns
returns c = repeats_over _ _ _ _ _ c.loop-conditions.invariant c.loop-conditions-test.ensures.0 ∙ ap (pure c.loop-conditions.conditions) (sym c.loop-conditions-test.ensures.1)
