use Rattle.std.proofs.Common.{arith, ◌∙◌}
use Rattle.library_tests.proofs.EventTurns.{asked, left}
use Rattle.library_tests.proofs.memory.depart_round.Goals as goal

pub depart-requires : goal.depart-requires
depart-requires g c =
    let i = c.loop-turn.invariant in
    record {
      can = record {
        accepted = rw (i.same) c.requires.accepted;
        stands = asked g.C.Scheduler.stands _ c.args.policy.now.policy i.same c.requires.accepted _ _ (λ q s. Unit {0}) i.stands;
        room = rw (i.same) (omega (arith, c.requires.room, i.room));
        few = omega (arith, i.departures);
      };
    }

pub loop-turn-preserved : goal.loop-turn-preserved
loop-turn-preserved g c =
    let i = c.loop-turn.invariant in
    let e = c.depart.ensures in
    record {
      stands = left g.C.Scheduler.stands _ c.args.policy.now.policy i.same c.requires.accepted _ _ _ _ (λ _. Unit {0}) (λ s h. h) e.state i.stands;
      same = e.kept.policy ∙ i.same;
      room = omega (arith, e.trace.room, i.room);
      departures = omega (arith, e.counts.departures, i.departures);
    }
