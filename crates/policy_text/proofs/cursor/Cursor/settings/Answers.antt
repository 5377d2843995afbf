use Rattle.policy_text.proofs.Prelude.{ap, sym, ◌∙◌, err_from_is_err_and, repeats_more, repeats_over, repeats_stuck, pure}
use Rattle.policy_text_defs.proofs.SettingLaws.{setting_shrinks}
use Rattle.policy_text.proofs.Refusals.{refused}
use Rattle.policy_text.proofs.cursor.Cursor.settings.Goals as goal

pub returns-in_err-given : goal.returns-in_err-given
returns-in_err-given c =
    let p = err_from_is_err_and c.from_residual.result c.from_residual.ensures.1 in
    rw (p.1, p.2) (refused _ _ _ (λ none. repeats_stuck _ _ _ _ _ _ _ c.loop-setting.invariant c.in-Some.ensures none) c.in_err-given.ensures)

pub loop-setting-preserved : goal.loop-setting-preserved
loop-setting-preserved c =
    repeats_more _ _ _ _ _ _ _ _ _ c.loop-setting.invariant c.in-Some.ensures c.in_ok-given.ensures (setting_shrinks _ _ _ _ _ _ c.in-Some.ensures c.in_ok-given.ensures)

pub loop-setting-smaller : goal.loop-setting-smaller
loop-setting-smaller c = setting_shrinks _ _ _ _ _ _ c.in-Some.ensures c.in_ok-given.ensures

pub returns : goal.returns
returns c = repeats_over _ _ _ _ _ c.loop-setting.invariant c.in_default.ensures.0 ∙ ap (pure c.loop-setting.given) (sym c.in_default.ensures.1)
