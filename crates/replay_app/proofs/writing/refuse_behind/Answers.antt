use Rattle.replay_app.proofs.Prelude.{err_from_is_err_and, appended_in_turn, cut_end, cut_part, whole_end}
use Rattle.outside_core.proofs.KeptLaws.{Begins-trans}
use Rattle.report_core.proofs.TextLaws.{IsCut-append, IsCut-longer}
use Rattle.replay_app.proofs.writing.refuse_behind.Goals as goal

pub returns-in_err-piece-clause-part : goal.returns-in_err-piece-clause-part
returns-in_err-piece-clause-part g c =
    let p = err_from_is_err_and c.from_residual-in_err-piece.result c.from_residual-in_err-piece.ensures.1 in
    let f = c.in_err-piece.ensures in
    rw (p.1) (cut_part _ _ _ _ c.in_ok-report.ensures.empty f.kept.begins (IsCut-longer _ _ _ _ f.cut))

pub returns-in_err-fault-clause-part : goal.returns-in_err-fault-clause-part
returns-in_err-fault-clause-part g c =
    let p = err_from_is_err_and c.from_residual-in_err-fault.result c.from_residual-in_err-fault.ensures.1 in
    let f = c.in_ok-piece.ensures in
    let e = c.in_err-fault.ensures in
    rw (p.1) (cut_part _ _ _ _ c.in_ok-report.ensures.empty (Begins-trans _ _ _ f.kept.begins e.kept.begins) (IsCut-append _ _ _ _ _ f.ok (rw c.from.ensures at e.cut)))

pub returns-in_err-finish-clause-part : goal.returns-in_err-finish-clause-part
returns-in_err-finish-clause-part g c =
    let p = err_from_is_err_and c.from_residual-in_err-finish.result c.from_residual-in_err-finish.ensures.1 in
    let f = c.in_ok-piece.ensures in
    let d = c.in_ok-fault.ensures in
    let e = c.in_err-finish.ensures in
    rw (p.1) (cut_end _ _ _ _ _ _ c.in_ok-report.ensures.empty (Begins-trans _ _ _ f.kept.begins d.kept.begins) e.kept.begins (appended_in_turn _ _ _ _ _ f.ok (rw c.from.ensures at d.ok)) e.cut)

pub returns-clause-text : goal.returns-clause-text
returns-clause-text g c =
    let f = c.in_ok-piece.ensures in
    let d = c.in_ok-fault.ensures in
    whole_end _ _ _ _ _ _ c.in_ok-report.ensures.empty (appended_in_turn _ _ _ _ _ f.ok (rw c.from.ensures at d.ok)) c.in_ok-finish.ensures.whole
