use Rattle.study.proofs.Prelude.{arith, err_from_is_err_and, sink-same}
use Rattle.study.proofs.RecordedRuns.{none_over_file}
use Rattle.study.proofs.recorded.record_through.Goals as goal

pub returns-in_err-run-clause-part : goal.returns-in_err-run-clause-part
returns-in_err-run-clause-part g c =
    let p = err_from_is_err_and c.from_residual.result c.from_residual.ensures.1 in
    rw p.1 (none_over_file g.W.Recorder c.args.laid.policy c.args.task.now.pace c.args.recorder (g.S.Shelf.content c.args.shelf.now c.args.task.now.capture.now) (g.K.Sink.written c.args.sink.now))

pub returns-clause-recorded : goal.returns-clause-recorded
returns-clause-recorded g c = rw (← c.into_parts-policy.ensures.policy, ← c.in_ok-run.ensures.recorder) c.record_over.ensures.recorded

pub returns-clause-part : goal.returns-clause-part
returns-clause-part g c = rw (← c.into_parts-policy.ensures.policy, ← c.in_ok-run.ensures.recorder) c.record_over.ensures.part

pub returns-in_err-run-clause-outside : goal.returns-in_err-run-clause-outside
returns-in_err-run-clause-outside g c =
    let p = err_from_is_err_and c.from_residual.result c.from_residual.ensures.1 in
    rw (p.1, p.2) (record { kept = sink-same g.K.Sink.written g.K.Sink.faults c.args.sink.now; later = omega arith; cause = tt })
