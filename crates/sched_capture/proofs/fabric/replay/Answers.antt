use Rattle.sched_capture.proofs.Prelude.{inr, IfSome_then, on_err_weaker, on_ok_weaker, err_from_is_err_and, laid_in, pace_of, paced_answer}
use Rattle.sched_capture.specs.CapturePackets.{left_of}
use Rattle.sched_capture.proofs.FileRuns.{report_of_file, watched_of_file, outside_after}
use Rattle.sched_capture.proofs.Refusals.{refused_report, unreported}
use Rattle.sched_capture.proofs.FabricRuns.{left_by, left_amid, holds_after}
use Rattle.sched_capture.proofs.fabric.replay.Goals as goal

pub returns-in_err-report-in-Ok-clause-report : goal.returns-in_err-report-in-Ok-clause-report
returns-in_err-report-in-Ok-clause-report g c =
    let p = err_from_is_err_and c.from_residual.result c.from_residual.ensures.1 in
    rw (p.1, c.in-Ok.ensures.unwritten) (unreported _ (g.S.Shelf.content c.args.shelf.now c.args.task.now.capture.now) (g.K.Sink.written c.args.sink.now) (paced_answer c.args.laid.policy (pace_of c.args.task.now.pace)))

pub returns-in_err-run-in-Ok-clause-report : goal.returns-in_err-run-in-Ok-clause-report
returns-in_err-run-in-Ok-clause-report g c =
    let p = err_from_is_err_and c.from_residual-in_err-run-in-Ok.result c.from_residual-in_err-run-in-Ok.ensures.1 in
    rw (p.1, c.in-Ok.ensures.unwritten) (unreported _ (g.S.Shelf.content c.args.shelf.now c.args.task.now.capture.now) (g.K.Sink.written c.args.sink.now) (paced_answer c.args.laid.policy (pace_of c.args.task.now.pace)))

pub returns-in-Ok-clause-report : goal.returns-in-Ok-clause-report
returns-in-Ok-clause-report g c =
    let parts = c.into_parts-policy in
    rw (← parts.ensures.policy) (report_of_file parts.result.0 (pace_of c.args.task.now.pace) c.run_over.result (g.S.Shelf.content c.args.shelf.now c.args.task.now.capture.now) (left_of c.in-Ok.packets (g.S.Shelf.left c.begin.new.shelf)) (g.K.Sink.written c.args.sink.now) (g.K.Sink.written c.run_over.new.sink)
    c.in-Ok.ensures.begins (rw c.in-Ok.ensures.unwritten at c.run_over.ensures.report))

pub returns-in-Ok-clause-fabric : goal.returns-in-Ok-clause-fabric
returns-in-Ok-clause-fabric g c =
    let parts = c.into_parts-policy in
    let laid = laid_in parts.result.2 parts.result.1 in
    let left = left_of c.in-Ok.packets (g.S.Shelf.left c.begin.new.shelf) in
    let n = c.in_ok-run-in-Ok.ensures in
    rw (← parts.ensures.policy, ← parts.ensures.target, ← parts.ensures.map) (left_by g.F.Fabric parts.result.0 laid c.args.task.now.pace c.run_over.result (g.S.Shelf.content c.args.shelf.now c.args.task.now.capture.now) left c.args.fabric.now c.run_over.new.under c.in-Ok.ensures.begins
    (on_ok_weaker c.run_over.result (λ all. IfSome_then left all
    (λ l made. holds_after g.F.Fabric parts.result.0.policy laid c.in_ok-run-in-Ok.run'.scheduler c.args.fabric.now c.run_through.new.fabric n.origin n.start.no_pushes n.start.no_departures n.spilled
    _ c.run_over.new.run.scheduler c.run_over.new.under made.state made.pushed made.asked made.origin made.spilled))
    c.run_over.ensures.state))

pub returns-in-Ok-clause-fabric_part : goal.returns-in-Ok-clause-fabric_part
returns-in-Ok-clause-fabric_part g c =
    let parts = c.into_parts-policy in
    let laid = laid_in parts.result.2 parts.result.1 in
    let left = left_of c.in-Ok.packets (g.S.Shelf.left c.begin.new.shelf) in
    let n = c.in_ok-run-in-Ok.ensures in
    rw (← parts.ensures.policy, ← parts.ensures.target, ← parts.ensures.map) (left_amid g.F.Fabric parts.result.0 laid c.args.task.now.pace c.run_over.result (g.S.Shelf.content c.args.shelf.now c.args.task.now.capture.now) left c.args.fabric.now c.run_over.new.under c.in-Ok.ensures.begins
    (on_err_weaker c.run_over.result (λ all. IfSome_then left all
    (λ l some. inr (record {
      made = some.made;
      unmade = some.unmade;
      whole = some.whole;
      holds = holds_after g.F.Fabric parts.result.0.policy laid c.in_ok-run-in-Ok.run'.scheduler c.args.fabric.now c.run_through.new.fabric n.origin n.start.no_pushes n.start.no_departures n.spilled
          some.made c.run_over.new.run.scheduler c.run_over.new.under some.leaves.state some.leaves.pushed some.leaves.asked some.leaves.origin some.leaves.spilled;
    })))
    c.run_over.ensures.amid))

pub returns-in-Ok-clause-watched : goal.returns-in-Ok-clause-watched
returns-in-Ok-clause-watched g c =
    let parts = c.into_parts-policy in
    rw (← parts.ensures.policy) (watched_of_file parts.result.0 (pace_of c.args.task.now.pace) c.run_over.result (g.S.Shelf.content c.args.shelf.now c.args.task.now.capture.now) (left_of c.in-Ok.packets (g.S.Shelf.left c.begin.new.shelf)) _ _ c.in-Ok.ensures.begins c.run_over.ensures.watched)

pub returns-in-Ok-clause-outside : goal.returns-in-Ok-clause-outside
returns-in-Ok-clause-outside g c =
    outside_after g.S.Shelf.faults c.args.shelf.now c.begin.new.shelf c.run_over.new.shelf g.K.Sink.written g.K.Sink.faults c.args.sink.now c.begin.new.sink c.run_over.new.sink c.run_over.result c.in-Ok.ensures.later c.in-Ok.ensures.kept c.run_over.ensures.outside

pub returns-clause-report : goal.returns-clause-report
returns-clause-report g c =
    let parts = c.into_parts-policy in
    rw (← parts.ensures.policy) (refused_report parts.result.0 (pace_of c.args.task.now.pace) (g.K.Sink.written c.args.sink.now) (g.K.Sink.written c.begin.new.sink) c.in-Err.answer (g.S.Shelf.content c.args.shelf.now c.args.task.now.capture.now) c.in-Err.ensures.refused c.in-Err.ensures.part)
