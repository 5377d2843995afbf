use Rattle.library_tests.proofs.Prelude.{◌≡◌, ◌≤◌, StandForOne, IsHeldBelow}
use Rattle.library_tests.proofs.memory.arrive_round.Given as goal

abbrev pub invariant-loop-number : goal.invariant-loop-number
invariant-loop-number g l =
    let scheduler = g.C.Scheduler in
    record {
      stands : StandForOne scheduler.stands l.policy.policy l.scheduler l.under (λ s. IsHeldBelow l.number s.held);
      same : scheduler.policy l.scheduler ≡ l.policy.policy;
      room : l.trace.room ≡ l.initial.trace.room;
      pushes : scheduler.pushes l.scheduler ≤ l.number;
      departures : scheduler.departures l.scheduler ≡ scheduler.departures l.initial.scheduler;
    }
