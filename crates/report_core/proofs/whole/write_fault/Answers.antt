use Rattle.std.proofs.lemmas.Result.{err_from_is_err_and}
use Rattle.outside_core.proofs.KeptLaws.{sink-same, sink-then}
use Rattle.report_core.proofs.WholeTexts.{cut_part, cut_end, whole_end}
use Rattle.report_core.proofs.whole.write_fault.Goals as goal

pub returns-in_err-fault-clause-part : goal.returns-in_err-fault-clause-part
returns-in_err-fault-clause-part g c =
    let p = err_from_is_err_and c.from_residual-in_err-fault.result c.from_residual-in_err-fault.ensures.1 in
    let f = c.in_err-fault.ensures in
    rw (p.1) (cut_part _ _ _ _ c.in_ok-report.ensures.empty f.kept.begins f.cut)

pub returns-in_err-finish-clause-part : goal.returns-in_err-finish-clause-part
returns-in_err-finish-clause-part g c =
    let p = err_from_is_err_and c.from_residual-in_err-finish.result c.from_residual-in_err-finish.ensures.1 in
    let f = c.in_ok-fault.ensures in
    let e = c.in_err-finish.ensures in
    rw (p.1) (cut_end _ _ _ _ _ _ c.in_ok-report.ensures.empty f.kept.begins e.kept.begins f.ok e.cut)

pub returns-in_err-finish-clause-kept : goal.returns-in_err-finish-clause-kept
returns-in_err-finish-clause-kept g c = sink-then _ _ _ _ _ c.in_ok-fault.ensures.kept c.in_err-finish.ensures.kept

pub returns-clause-text : goal.returns-clause-text
returns-clause-text g c = whole_end _ _ _ _ _ _ c.in_ok-report.ensures.empty c.in_ok-fault.ensures.ok c.in_ok-finish.ensures.whole

pub returns-clause-kept : goal.returns-clause-kept
returns-clause-kept g c = sink-then _ _ _ _ _ c.in_ok-fault.ensures.kept c.in_ok-finish.ensures.kept

pub returns-in_err-report-clause-kept : goal.returns-in_err-report-clause-kept
returns-in_err-report-clause-kept g c = sink-same _ _ _
