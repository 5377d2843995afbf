use Rattle.policy_text.proofs.Prelude.{◌≡◌, ◌++◌, [], ◌∷◌, ap, sym, ◌∙◌, err_from_is_err_and, repeats_more, repeats_over, repeats_stuck, pure}
use Rattle.policy_text_defs.proofs.TestLaws.{tests_shrink}
use Rattle.policy_text.proofs.LoopLaws.{tests_read, tests_unread, repeats_at, lists_start}
use Rattle.policy_text.proofs.Refusals.{refused}
use Rattle.policy_text.proofs.alternatives.test_lists.Goals as goal

pub loop-alloc-init : goal.loop-alloc-init
loop-alloc-init c =
    let empty = c.from_vec-alternatives.ensures ∙ c.new.ensures.items in
    let pushed : c.push.new.self ≡ c.in_ok-tests.field-0 ∷ [] = c.in_ok-push.ensures.ok ∙ ap (λ l. l ++ c.in_ok-tests.field-0 ∷ []) empty in
    repeats_at _ _ _ _ _ _ (lists_start _ _ _ c.in_ok-tests.ensures) pushed

pub returns-in_err-tests-2 : goal.returns-in_err-tests-2
returns-in_err-tests-2 c =
    let p = err_from_is_err_and c.from_residual-in_err-tests-2.result c.from_residual-in_err-tests-2.ensures.1 in
    rw (p.1, p.2) (refused _ _ _ (λ none. repeats_stuck _ _ _ _ _ _ _ c.loop-alloc.invariant c.loop-alloc-test.ensures (tests_unread _ _ none)) c.in_err-tests-2.ensures)

pub loop-alloc-smaller : goal.loop-alloc-smaller
loop-alloc-smaller c =
    tests_shrink _ _ _ _ _ _ c.loop-alloc-test.ensures (tests_read c.loop-alloc.alternatives _ _ _ c.in_ok-tests-2.ensures)

pub loop-alloc-preserved : goal.loop-alloc-preserved
loop-alloc-preserved c =
    let read = tests_read c.loop-alloc.alternatives _ _ _ c.in_ok-tests-2.ensures in
    repeats_at _ _ _ _ _ _ (repeats_more _ _ _ _ _ _ _ _ _ c.loop-alloc.invariant c.loop-alloc-test.ensures read (tests_shrink _ _ _ _ _ _ c.loop-alloc-test.ensures read)) c.in_ok-push-2.ensures.ok

pub returns : goal.returns
returns c = repeats_over _ _ _ _ _ c.loop-alloc.invariant c.loop-alloc-test.ensures.0 ∙ ap (pure c.loop-alloc.alternatives) (sym c.loop-alloc-test.ensures.1)
