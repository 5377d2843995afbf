use Rattle.std.proofs.lemmas.Result.{err_from_is_err_and}
use Rattle.study.proofs.RecordedRuns.{none_over_file}
use Rattle.study.proofs.recorded.record_own.Goals as goal

pub returns-in_err-run-clause-part : goal.returns-in_err-run-clause-part
returns-in_err-run-clause-part g c =
    let p = err_from_is_err_and c.from_residual.result c.from_residual.ensures.1 in
    rw p.1 (none_over_file g.W.Recorder c.args.policy.now c.args.task.now.pace c.args.recorder (g.S.Shelf.content c.args.shelf.now c.args.task.now.capture.now) (g.K.Sink.written c.args.sink.now))
