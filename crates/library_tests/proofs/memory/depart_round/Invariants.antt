use Rattle.library_tests.proofs.Prelude.{◌≡◌, ◌≤◌, StandForOne, depth}
use Rattle.library_tests.proofs.memory.depart_round.Given as goal

abbrev pub invariant-loop-turn : goal.invariant-loop-turn
invariant-loop-turn g l =
    let scheduler = g.C.Scheduler in
    record {
      stands : StandForOne scheduler.stands l.policy.policy l.scheduler l.under (λ _. Unit {0});
      same : scheduler.policy l.scheduler ≡ l.policy.policy;
      room : depth l.policy.policy.tree ≤ l.trace.room;
      departures : scheduler.departures l.scheduler ≤ l.turn;
    }
