use Rattle.policy_text.proofs.Prelude.{◌≡◌, ap, [], arith, suc, max, err_from_is_err_and, phrase_of, depth}
use Rattle.policy_text_defs.proofs.ChainLemmas.{chain_more, chain_stuck, chain_deep, limited_some}
use Rattle.policy_text.proofs.Refusals.{refused}
use Rattle.policy_text.proofs.parser.+expression.Goals as goal

pub product-loop-op-preserved : goal.product-loop-op-preserved
product-loop-op-preserved t c = chain_more _ _ _ _ _ _ _ _ _ _ c.loop-op.invariant c.in-Some.ensures c.in_ok-right.ensures (c.in_ok-left-2.ensures _)

pub product-loop-op-smaller : goal.product-loop-op-smaller
product-loop-op-smaller t c =
    let same = (limited_some _ _ _ (c.in_ok-left-2.ensures [])).1 in
    let deeper : suc (max (depth (phrase_of c.loop-op.left.term)) (depth (phrase_of c.in_ok-right.right.term))) ≡ depth (phrase_of c.in_ok-left-2.left.term) = ap depth same in
    omega arith

pub product-returns-in_err-right : goal.product-returns-in_err-right
product-returns-in_err-right t c =
    let p = err_from_is_err_and c.from_residual-in_err-right.result c.from_residual-in_err-right.ensures.1 in
    rw (p.1, p.2) (refused _ _ _ (λ none. chain_stuck _ _ _ _ _ _ _ c.loop-op.invariant c.in-Some.ensures none) c.in_err-right.ensures)

pub product-returns-in_err-left-2 : goal.product-returns-in_err-left-2
product-returns-in_err-left-2 t c =
    let p = err_from_is_err_and c.from_residual-in_err-left-2.result c.from_residual-in_err-left-2.ensures.1 in
    rw (p.1, p.2) (refused _ _ _ (λ none. chain_deep _ _ _ _ _ _ _ _ _ c.loop-op.invariant c.in-Some.ensures c.in_ok-right.ensures none) (c.in_err-left-2.ensures _))

pub sum-loop-op-preserved : goal.sum-loop-op-preserved
sum-loop-op-preserved t c = chain_more _ _ _ _ _ _ _ _ _ _ c.loop-op.invariant c.in-Some.ensures c.in_ok-right.ensures (c.in_ok-left-2.ensures _)

pub sum-loop-op-smaller : goal.sum-loop-op-smaller
sum-loop-op-smaller t c =
    let same = (limited_some _ _ _ (c.in_ok-left-2.ensures [])).1 in
    let deeper : suc (max (depth (phrase_of c.loop-op.left.term)) (depth (phrase_of c.in_ok-right.right.term))) ≡ depth (phrase_of c.in_ok-left-2.left.term) = ap depth same in
    omega arith

pub sum-returns-in_err-right : goal.sum-returns-in_err-right
sum-returns-in_err-right t c =
    let p = err_from_is_err_and c.from_residual-in_err-right.result c.from_residual-in_err-right.ensures.1 in
    rw (p.1, p.2) (refused _ _ _ (λ none. chain_stuck _ _ _ _ _ _ _ c.loop-op.invariant c.in-Some.ensures none) c.in_err-right.ensures)

pub sum-returns-in_err-left-2 : goal.sum-returns-in_err-left-2
sum-returns-in_err-left-2 t c =
    let p = err_from_is_err_and c.from_residual-in_err-left-2.result c.from_residual-in_err-left-2.ensures.1 in
    rw (p.1, p.2) (refused _ _ _ (λ none. chain_deep _ _ _ _ _ _ _ _ _ c.loop-op.invariant c.in-Some.ensures c.in_ok-right.ensures none) (c.in_err-left-2.ensures _))
