use Rattle.sched_capture.proofs.Prelude.{inr, on_err_weaker, on_ok_weaker, sink-same, start, laid_in, on_err_given, load_run}
use Rattle.sched_capture.proofs.FabricRuns.{holds_after}
use Rattle.sched_capture.proofs.load.soak.Goals as goal

pub returns-in_err-run-clause-fabric_part : goal.returns-in_err-run-clause-fabric_part
returns-in_err-run-clause-fabric_part g c =
    let parts = c.into_parts-policy in
    rw (← parts.ensures.policy, ← parts.ensures.target, ← parts.ensures.map) (on_err_given _ _ (c.in_err-run.ensures.part _))

pub returns-clause-counts : goal.returns-clause-counts
returns-clause-counts g c = rw (← c.into_parts-policy.ensures.policy) c.count_load.ensures.counts

pub returns-clause-fabric : goal.returns-clause-fabric
returns-clause-fabric g c =
    let parts = c.into_parts-policy in
    let policy = parts.result.0.policy in
    let laid = laid_in parts.result.2 parts.result.1 in
    let n = c.in_ok-run.ensures in
    rw (← parts.ensures.policy, ← parts.ensures.target, ← parts.ensures.map) (on_ok_weaker c.count_load.result (λ made. holds_after g.F.Fabric parts.result.0.policy laid c.in_ok-run.run'.scheduler c.args.fabric.now c.run_through.new.fabric n.origin n.start.no_pushes n.start.no_departures n.spilled
    (load_run policy c.args.load.seed c.args.load.count (start policy)) c.count_load.new.run.scheduler c.count_load.new.under made.state made.pushed made.asked made.origin made.spilled)
    c.count_load.ensures.state)

pub returns-clause-fabric_part : goal.returns-clause-fabric_part
returns-clause-fabric_part g c =
    let parts = c.into_parts-policy in
    let laid = laid_in parts.result.2 parts.result.1 in
    let n = c.in_ok-run.ensures in
    rw (← parts.ensures.policy, ← parts.ensures.target, ← parts.ensures.map) (on_err_weaker c.count_load.result (λ some. inr (record {
      made = some.made;
      unmade = some.unmade;
      whole = some.whole;
      holds = holds_after g.F.Fabric parts.result.0.policy laid c.in_ok-run.run'.scheduler c.args.fabric.now c.run_through.new.fabric n.origin n.start.no_pushes n.start.no_departures n.spilled
          some.made c.count_load.new.run.scheduler c.count_load.new.under some.leaves.state some.leaves.pushed some.leaves.asked some.leaves.origin some.leaves.spilled;
    }))
    c.count_load.ensures.amid)

pub returns-in_err-run-clause-kept : goal.returns-in_err-run-clause-kept
returns-in_err-run-clause-kept g c = sink-same g.K.Sink.written g.K.Sink.faults c.args.sink.now
