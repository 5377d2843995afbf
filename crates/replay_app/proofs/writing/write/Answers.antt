use Rattle.replay_app.proofs.Prelude.{err_from_is_err_and, cut_end, cut_part, whole_end}
use Rattle.replay_app.proofs.writing.write.Goals as goal

pub returns-in_err-piece-clause-part : goal.returns-in_err-piece-clause-part
returns-in_err-piece-clause-part g c =
    let p = err_from_is_err_and c.from_residual-in_err-piece.result c.from_residual-in_err-piece.ensures.1 in
    let f = c.in_err-piece.ensures in
    rw (p.1) (cut_part _ _ _ _ c.in_ok-report.ensures.empty f.kept.begins f.cut)

pub returns-in_err-finish-clause-part : goal.returns-in_err-finish-clause-part
returns-in_err-finish-clause-part g c =
    let p = err_from_is_err_and c.from_residual-in_err-finish.result c.from_residual-in_err-finish.ensures.1 in
    let f = c.in_ok-piece.ensures in
    let e = c.in_err-finish.ensures in
    rw (p.1) (cut_end _ _ _ _ _ _ c.in_ok-report.ensures.empty f.kept.begins e.kept.begins f.ok e.cut)

pub returns-clause-text : goal.returns-clause-text
returns-clause-text g c = whole_end _ _ _ _ _ _ c.in_ok-report.ensures.empty c.in_ok-piece.ensures.ok c.in_ok-finish.ensures.whole
