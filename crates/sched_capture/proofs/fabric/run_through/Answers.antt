use Rattle.sched_capture.proofs.Prelude.{List, arith, sym, [], refl, inr, Event, laid_in, on_err_given}
use Rattle.sched_run.proofs.JoinedEvents.{raised_nothing}
use Rattle.sched_capture.proofs.FabricRuns.{holds_after}
use Rattle.sched_capture.proofs.fabric.run_through.Goals as goal

pub returns-in_err-run-clause-part : goal.returns-in_err-run-clause-part
returns-in_err-run-clause-part g c =
    let laid = laid_in c.args.map c.args.target.now in
    let n = c.in_ok-scheduler.ensures in
    on_err_given c.from_residual-in_err-run.result _ (λ (events : List Event). inr (record {
      made = [];
      unmade = events;
      whole = refl;
      holds = holds_after g.F.Fabric c.args.policy.now.policy laid c.in_ok-scheduler.scheduler c.args.fabric.now c.new-2.new.fabric n.origin n.fresh.pushes n.fresh.departures n.counts.spilled [] c.in_ok-scheduler.scheduler c.new-2.new.fabric
          n.stands (omega arith) (omega arith) refl (sym (raised_nothing _));
    }))
