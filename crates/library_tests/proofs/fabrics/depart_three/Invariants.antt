use Rattle.library_tests.proofs.Prelude.{◌≡◌, ◌≤◌, IsTrue, StandForOne, depth}
use Rattle.library_tests.proofs.fabrics.depart_three.Given as goal

abbrev pub invariant-loop-event : goal.invariant-loop-event
invariant-loop-event g l =
    let scheduler = g.C.Scheduler in
    record {
      stands : StandForOne scheduler.stands l.policy.policy l.scheduler l.under (λ _. Unit {0});
      same : scheduler.policy l.scheduler ≡ l.policy.policy;
      room : depth l.policy.policy.tree ≤ l.trace.room;
      live : IsTrue l.report.live;
      departures : scheduler.departures l.scheduler ≤ l.event;
    }
