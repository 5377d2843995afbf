use Rattle.sched_capture.proofs.Prelude.{Some, arith, inr, rules, IfSome_then, on_err_weaker, on_ok_weaker, sink-same, LeavesPart, laid_in, forward_through, captures_of, link_of}
use Rattle.sched_capture.specs.SingleLinkType.{left_of}
use Rattle.sched_capture.proofs.FabricRuns.{holds_after, left_before}
use Rattle.sched_capture.proofs.ForwardFiles.{none_sent}
use Rattle.sched_capture.proofs.departures.forward_records.Goals as goal

pub returns-in_err-recorder-clause-part : goal.returns-in_err-recorder-clause-part
returns-in_err-recorder-clause-part g c =
    none_sent c.args.policy.now.policy c.args.rate (link_of c.args.packets.now) (left_of c.args.packets.now (g.S.Shelf.left c.args.shelf.now)) (captures_of c.args.packets.now (g.S.Shelf.left c.args.shelf.now)) _ (g.K.Sink.written c.args.sink.now)

pub returns-in_err-run-clause-part : goal.returns-in_err-run-clause-part
returns-in_err-run-clause-part g c =
    none_sent c.args.policy.now.policy c.args.rate (link_of c.args.packets.now) (left_of c.args.packets.now (g.S.Shelf.left c.args.shelf.now)) (captures_of c.args.packets.now (g.S.Shelf.left c.args.shelf.now)) _ (g.K.Sink.written c.args.sink.now)

pub returns-clause-fabric : goal.returns-clause-fabric
returns-clause-fabric g c =
    let laid = laid_in c.args.map c.args.target.now in
    let n = c.in_ok-run.ensures in
    on_ok_weaker c.forward_over.result (λ all. IfSome_then (left_of c.args.packets.now (g.S.Shelf.left c.args.shelf.now)) all
    (λ l made. holds_after g.F.Fabric c.args.policy.now.policy laid c.in_ok-run.run'.scheduler c.args.fabric.now c.run_through.new.fabric n.origin n.start.no_pushes n.start.no_departures n.spilled
    _ c.forward_over.new.run.scheduler c.forward_over.new.under made.state made.pushed made.asked made.origin made.spilled))
    c.forward_over.ensures.state

pub returns-clause-fabric_part : goal.returns-clause-fabric_part
returns-clause-fabric_part g c =
    let laid = laid_in c.args.map c.args.target.now in
    let n = c.in_ok-run.ensures in
    on_err_weaker c.forward_over.result (λ all. IfSome_then (left_of c.args.packets.now (g.S.Shelf.left c.args.shelf.now)) all
    (λ l some. inr (record {
      made = some.made;
      unmade = some.unmade;
      whole = some.whole;
      holds = holds_after g.F.Fabric c.args.policy.now.policy laid c.in_ok-run.run'.scheduler c.args.fabric.now c.run_through.new.fabric n.origin n.start.no_pushes n.start.no_departures n.spilled
          some.made c.forward_over.new.run.scheduler c.forward_over.new.under some.leaves.state some.leaves.pushed some.leaves.asked some.leaves.origin some.leaves.spilled;
    })))
    c.forward_over.ensures.amid

pub returns-in_err-run-clause-fabric_part : goal.returns-in_err-run-clause-fabric_part
returns-in_err-run-clause-fabric_part g c =
    let laid = laid_in c.args.map c.args.target.now in
    left_before _ (left_of c.args.packets.now (g.S.Shelf.left c.args.shelf.now)) (λ l. LeavesPart g.F.Fabric (Some (forward_through c.args.policy.now.policy laid c.args.rate l)) c.args.fabric.now c.run_through.new.fabric)
    (λ l. c.in_err-run.ensures.part _)

pub returns-in_err-recorder-clause-outside : goal.returns-in_err-recorder-clause-outside
returns-in_err-recorder-clause-outside g c = record { kept = sink-same g.K.Sink.written g.K.Sink.faults c.args.sink.now; later = omega arith; cause = search rules }

pub returns-in_err-run-clause-outside : goal.returns-in_err-run-clause-outside
returns-in_err-run-clause-outside g c = record { kept = sink-same g.K.Sink.written g.K.Sink.faults c.args.sink.now; later = omega arith; cause = search rules }
