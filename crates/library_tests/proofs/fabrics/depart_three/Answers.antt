use Rattle.std.proofs.Common.{arith, ◌∙◌}
use Rattle.library_tests.proofs.EventTurns.{left}
use Rattle.library_tests.proofs.fabrics.depart_three.Goals as goal

pub loop-event-preserved : goal.loop-event-preserved
loop-event-preserved g c =
    let i = c.loop-event.invariant in
    let e = c.in_ok-depart_line.ensures in
    record {
      stands = left g.C.Scheduler.stands _ c.args.policy.now.policy i.same c.depth.ensures.accepted _ _ _ _ (λ _. Unit {0}) (λ s h. h) e.departs.state i.stands;
      same = e.departs.asked.policy ∙ i.same;
      room = omega (arith, e.departs.room, i.room);
      live = e.live;
      departures = omega (arith, e.departs.asked.departures, i.departures);
    }
