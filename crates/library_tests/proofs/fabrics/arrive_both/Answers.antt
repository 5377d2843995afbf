use Rattle.library_tests.proofs.Prelude.{arith, ◌∙◌, Ok, sound_arrived, sound_start, CanArrive, arrived, start}
use Rattle.library_tests.proofs.EventTurns.{asked, stands_arrived, one_push}
use Rattle.library_tests.proofs.Rounds.{one_push_at_most}
use Rattle.library_tests.proofs.fabrics.arrive_both.Goals as goal

pub arrive-requires : goal.arrive-requires
arrive-requires g c =
    let policy = c.args.policy.now.policy in
    let r = c.requires in
    record {
      can = record {
        accepted = rw (r.policy) r.accepted;
        stands = asked g.C.Scheduler.stands _ policy r.policy r.accepted _ _ (λ q s. CanArrive q s c.args.first.now)
            (record { state = start policy; sound = sound_start policy r.accepted; stood = r.stands; has = r.can.0 });
        room = rw (r.policy) r.room;
        few = omega (arith, r.no_pushes);
      };
    }

pub arrive-requires-2 : goal.arrive-requires-2
arrive-requires-2 g c =
    let policy = c.args.policy.now.policy in
    let r = c.requires in
    let e = c.in_ok-arrive.ensures in
    let sound = sound_start policy r.accepted in
    let same = e.kept.policy ∙ r.policy in
    record {
      can = record {
        accepted = rw (same) r.accepted;
        stands = asked g.C.Scheduler.stands _ policy same r.accepted _ _ (λ q s. CanArrive q s c.args.second.now)
            (record {
              state = arrived policy c.args.first.now (start policy);
              sound = sound_arrived policy c.args.first.now (start policy) r.accepted sound r.can.0;
              stood = stands_arrived g.C.Scheduler.stands _ policy r.policy r.accepted _ _ _ _ c.args.first.now e.state (start policy) sound r.stands;
              has = r.can.1.0;
            });
        room = rw (same) (omega (arith, r.room, e.path.room));
        few = omega (arith, r.no_pushes, e.counts.pushes, one_push_at_most (Ok c.in_ok-arrive.field-0));
      };
    }

pub returns-clause-stands : goal.returns-clause-stands
returns-clause-stands g c =
    let policy = c.args.policy.now.policy in
    let r = c.requires in
    let sound = sound_start policy r.accepted in
    let next = sound_arrived policy c.args.first.now (start policy) r.accepted sound r.can.0 in
    stands_arrived g.C.Scheduler.stands _ policy (c.in_ok-arrive.ensures.kept.policy ∙ r.policy) r.accepted _ _ _ _ c.args.second.now c.in_ok-arrive-2.ensures.state _ next
    (stands_arrived g.C.Scheduler.stands _ policy r.policy r.accepted _ _ _ _ c.args.first.now c.in_ok-arrive.ensures.state (start policy) sound r.stands)

pub returns-clause-pushes : goal.returns-clause-pushes
returns-clause-pushes g c =
    let policy = c.args.policy.now.policy in
    let S = g.C.Scheduler in
    let r = c.requires in
    let own = S.policy c.args.scheduler.now in
    let first = c.args.first.now in
    let second = c.args.second.now in
    let sound = sound_start policy r.accepted in
    let next = sound_arrived policy first (start policy) r.accepted sound r.can.0 in
    let stood = stands_arrived S.stands _ policy r.policy r.accepted _ _ _ _ first c.in_ok-arrive.ensures.state (start policy) sound r.stands in
    let one = rw r.policy at c.in_ok-arrive.ensures.answer in
    let two = rw (c.in_ok-arrive.ensures.kept.policy, r.policy) at c.in_ok-arrive-2.ensures.answer in
    omega (
      arith,
      r.no_pushes,
      c.in_ok-arrive.ensures.counts.pushes,
      c.in_ok-arrive-2.ensures.counts.pushes,
      one_push policy first (start policy) _ (one (start policy) sound r.stands) (r.unlimited first (start policy)),
      one_push policy second (arrived policy first (start policy)) _ (two (arrived policy first (start policy)) next stood) (r.unlimited second (arrived policy first (start policy))),
    )
