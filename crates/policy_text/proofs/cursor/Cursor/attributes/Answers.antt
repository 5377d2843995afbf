use Rattle.policy_text.proofs.Prelude.{ap, sym, ◌∙◌, err_from_is_err_and, repeats_more, repeats_over, repeats_stuck, pure}
use Rattle.policy_text_defs.proofs.AttributeLaws.{attribute_shrinks}
use Rattle.policy_text.proofs.LoopLaws.{set_read, set_unread, set_refused}
use Rattle.policy_text.proofs.Refusals.{refused}
use Rattle.policy_text.proofs.cursor.Cursor.attributes.Goals as goal

pub returns-in_err-number : goal.returns-in_err-number
returns-in_err-number c =
    let p = err_from_is_err_and c.from_residual.result c.from_residual.ensures.1 in
    rw (p.1, p.2) (refused _ _ _ (λ none. repeats_stuck _ _ _ _ _ _ _ c.loop-attribute.invariant c.in-Some.ensures (set_unread _ _ _ none)) c.in_err-number.ensures)

pub returns-in_err-attrs : goal.returns-in_err-attrs
returns-in_err-attrs c =
    let p = err_from_is_err_and c.from_residual-in_err-attrs.result c.from_residual-in_err-attrs.ensures.1 in
    rw (p.1, p.2) (refused _ _ _ (λ none. repeats_stuck _ _ _ _ _ _ _ c.loop-attribute.invariant c.in-Some.ensures (set_refused _ _ _ _ _ c.in_ok-number.ensures none)) (c.in_err-attrs.ensures _))

pub loop-attribute-preserved : goal.loop-attribute-preserved
loop-attribute-preserved c =
    let read = set_read _ _ _ _ _ _ _ c.in_ok-number.ensures (c.in_ok-attrs.ensures _) in
    repeats_more _ _ _ _ _ _ _ _ _ c.loop-attribute.invariant c.in-Some.ensures read (attribute_shrinks _ _ _ _ _ _ c.in-Some.ensures read)

pub loop-attribute-smaller : goal.loop-attribute-smaller
loop-attribute-smaller c =
    let read = set_read _ _ _ _ _ _ _ c.in_ok-number.ensures (c.in_ok-attrs.ensures _) in
    attribute_shrinks _ _ _ _ _ _ c.in-Some.ensures read

pub returns : goal.returns
returns c = repeats_over _ _ _ _ _ c.loop-attribute.invariant c.in_default.ensures.0 ∙ ap (pure c.loop-attribute.attrs) (sym c.in_default.ensures.1)
