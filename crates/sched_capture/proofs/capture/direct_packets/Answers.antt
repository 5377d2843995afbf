use Rattle.sched_capture.proofs.Prelude.{arith, rules, err_from_is_err_and, sink-same, pace_of, answer_of}
use Rattle.sched_capture.specs.CapturePackets.{left_of}
use Rattle.sched_capture.proofs.Refusals.{unreported}
use Rattle.sched_capture.proofs.capture.direct_packets.Goals as goal

pub returns-in_err-report-clause-report : goal.returns-in_err-report-clause-report
returns-in_err-report-clause-report g c =
    let p = err_from_is_err_and c.from_residual.result c.from_residual.ensures.1 in
    rw (p.1) (unreported _ (left_of c.args.packets.now (g.S.Shelf.left c.args.shelf.now)) (g.K.Sink.written c.args.sink.now) (λ l. answer_of c.args.policy.now.policy (pace_of c.args.pace) l.packets l.fault))

pub returns-in_err-report-clause-outside : goal.returns-in_err-report-clause-outside
returns-in_err-report-clause-outside g c = record { kept = sink-same g.K.Sink.written g.K.Sink.faults c.args.sink.now; later = omega arith; cause = search rules }

pub returns-in_err-run-clause-report : goal.returns-in_err-run-clause-report
returns-in_err-run-clause-report g c =
    let p = err_from_is_err_and c.from_residual-in_err-run.result c.from_residual-in_err-run.ensures.1 in
    rw (p.1) (unreported _ (left_of c.args.packets.now (g.S.Shelf.left c.args.shelf.now)) (g.K.Sink.written c.args.sink.now) (λ l. answer_of c.args.policy.now.policy (pace_of c.args.pace) l.packets l.fault))

pub returns-in_err-run-clause-outside : goal.returns-in_err-run-clause-outside
returns-in_err-run-clause-outside g c = record { kept = sink-same g.K.Sink.written g.K.Sink.faults c.args.sink.now; later = omega arith; cause = search rules }
