use Rattle.sched_capture.proofs.Prelude.{subst, on_err_weaker, on_ok_weaker, err_from_is_err_and, appended_in_turn, Appended, IsCut-longer, IsCut-append}
use Rattle.sched_capture.proofs.forwarding.put_sent.Goals as goal

pub returns-in_err-piece-clause-cut : goal.returns-in_err-piece-clause-cut
returns-in_err-piece-clause-cut g c =
    let p = err_from_is_err_and c.from_residual.result c.from_residual.ensures.1 in
    rw p.1 (IsCut-longer _ _ _ _ (rw c.record_front.ensures at c.in_err-piece.ensures.cut))

pub returns-clause-ok : goal.returns-clause-ok
returns-clause-ok g c =
    on_ok_weaker _ (appended_in_turn _ _ _ _ _ (subst (Appended _ _) c.record_front.ensures c.in_ok-piece.ensures.ok)) c.piece-2.ensures.ok

pub returns-clause-cut : goal.returns-clause-cut
returns-clause-cut g c =
    on_err_weaker _ (IsCut-append _ _ _ _ _ (subst (Appended _ _) c.record_front.ensures c.in_ok-piece.ensures.ok)) c.piece-2.ensures.cut
