use Rattle.study.proofs.Prelude.{err_from_is_err_and, Begins-trans, appended_in_turn}
use Rattle.report_core.proofs.TextLaws.{IsCut-append, IsCut-longer}
use Rattle.report_core.proofs.WholeTexts.{cut_part, cut_end, whole_end}
use Rattle.study.proofs.sums.write_ended.Goals as goal

pub returns-in_err-piece-clause-part : goal.returns-in_err-piece-clause-part
returns-in_err-piece-clause-part g c =
    let p = err_from_is_err_and c.from_residual-in_err-piece.result c.from_residual-in_err-piece.ensures.1 in
    let f = c.in_err-piece.ensures in
    rw (p.1) (cut_part _ _ _ _ c.in_ok-report.ensures.empty f.kept.begins (IsCut-longer _ _ _ _ f.cut))

pub returns-in_err-put_ending-clause-part : goal.returns-in_err-put_ending-clause-part
returns-in_err-put_ending-clause-part g c =
    let p = err_from_is_err_and c.from_residual-in_err-put_ending.result c.from_residual-in_err-put_ending.ensures.1 in
    let f = c.in_ok-piece.ensures in
    let e = c.in_err-put_ending.ensures in
    rw (p.1) (cut_part _ _ _ _ c.in_ok-report.ensures.empty (Begins-trans _ _ _ f.kept.begins e.kept.begins) (IsCut-append _ _ _ _ _ f.ok e.cut))

pub returns-in_err-finish-clause-part : goal.returns-in_err-finish-clause-part
returns-in_err-finish-clause-part g c =
    let p = err_from_is_err_and c.from_residual-in_err-finish.result c.from_residual-in_err-finish.ensures.1 in
    let f = c.in_ok-piece.ensures in
    let d = c.in_ok-put_ending.ensures in
    let e = c.in_err-finish.ensures in
    rw (p.1) (cut_end _ _ _ _ _ _ c.in_ok-report.ensures.empty (Begins-trans _ _ _ f.kept.begins d.kept.begins) e.kept.begins (appended_in_turn _ _ _ _ _ f.ok d.ok) e.cut)

pub returns-clause-text : goal.returns-clause-text
returns-clause-text g c =
    let f = c.in_ok-piece.ensures in
    let d = c.in_ok-put_ending.ensures in
    whole_end _ _ _ _ _ _ c.in_ok-report.ensures.empty (appended_in_turn _ _ _ _ _ f.ok d.ok) c.in_ok-finish.ensures.whole
