use Rattle.policy_text.proofs.Prelude.{ap, sym, ◌∙◌, err_from_is_err_and, repeats_more, repeats_over, repeats_stuck, pure}
use Rattle.policy_text_defs.proofs.TestLaws.{flag_shrinks}
use Rattle.policy_text.proofs.Refusals.{refused}
use Rattle.policy_text.proofs.cursor.Cursor.more_flags.Goals as goal

pub returns-in_err-flags : goal.returns-in_err-flags
returns-in_err-flags c =
    let p = err_from_is_err_and c.from_residual.result c.from_residual.ensures.1 in
    rw (p.1, p.2) (refused _ _ _ (λ none. repeats_stuck _ _ _ _ _ _ _ c.loop-self.invariant c.loop-self-test.ensures none) c.in_err-flags.ensures)

pub loop-self-smaller : goal.loop-self-smaller
loop-self-smaller c = flag_shrinks _ _ _ _ _ _ c.loop-self-test.ensures c.in_ok-flags.ensures

pub loop-self-preserved : goal.loop-self-preserved
loop-self-preserved c = repeats_more _ _ _ _ _ _ _ _ _ c.loop-self.invariant c.loop-self-test.ensures c.in_ok-flags.ensures (flag_shrinks _ _ _ _ _ _ c.loop-self-test.ensures c.in_ok-flags.ensures)

pub returns : goal.returns
returns c = repeats_over _ _ _ _ _ c.loop-self.invariant c.loop-self-test.ensures.0 ∙ ap (pure c.loop-self.flags) (sym c.loop-self-test.ensures.1)
