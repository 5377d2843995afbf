use Rattle.study.proofs.Prelude.{err_from_is_err_and, left_of}
use Rattle.study.proofs.RecordedRuns.{whole_over_file, part_over_file}
use Rattle.study.proofs.recorded.record_over.Goals as goal

pub returns-in_err-ending-in-Ok-clause-part : goal.returns-in_err-ending-in-Ok-clause-part
returns-in_err-ending-in-Ok-clause-part g c =
    let p = err_from_is_err_and c.from_residual.result c.from_residual.ensures.1 in
    rw p.1 (part_over_file g.W.Recorder c.args.policy.now c.args.task.now.pace c.args.run.recorder (g.S.Shelf.content c.args.shelf.now c.args.task.now.capture.now) (left_of c.in-Ok.packets (g.S.Shelf.left c.begin.new.shelf)) _ _
    c.in-Ok.ensures.begins (rw c.in-Ok.ensures.unwritten at c.in_err-ending-in-Ok.ensures.part))

pub returns-in-Ok-clause-recorded : goal.returns-in-Ok-clause-recorded
returns-in-Ok-clause-recorded g c =
    let e = c.in_ok-ending-in-Ok.ensures in
    rw c.into_recorder.ensures (whole_over_file g.W.Recorder c.args.policy.now c.args.task.now.pace c.args.run.recorder (g.S.Shelf.content c.args.shelf.now c.args.task.now.capture.now) (left_of c.in-Ok.packets (g.S.Shelf.left c.begin.new.shelf)) _ _ _ _
    c.in-Ok.ensures.begins (rw c.in-Ok.ensures.unwritten at e.whole))

pub returns-in-Ok-clause-live : goal.returns-in-Ok-clause-live
returns-in-Ok-clause-live g c = rw c.into_recorder.ensures c.in_ok-ending-in-Ok.ensures.live
