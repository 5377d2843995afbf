use Rattle.library_tests.proofs.Prelude.{arith, ◌∙◌, refl, ℕ, Packet, IsAccepted, Policy, sound_start, CanArrive, IsSendable, start}
use Rattle.library_tests.proofs.EventTurns.{asked}
use Rattle.library_tests.proofs.Rounds.{can_come, stands_tried, one_push_at_most}
use Rattle.library_tests.proofs.memory.arrive_round.Goals as goal

abbrev packet : ℕ → Packet
packet number = record { number = number; class = 0; len = 4; moment = 5; flow = record { version = 0; source = 0; target = 0; proto = 0; sport = 0; dport = 0 } }

packet_in : (policy : Policy) → IsAccepted policy → (number : ℕ) → IsSendable policy (packet number)
packet_in policy accepted number = record { known = record { class = accepted.some_class; len = omega arith }; moment = omega arith }

pub loop-number-init : goal.loop-number-init
loop-number-init g c =
    let policy = c.args.policy.now.policy in
    let r = c.requires in
    record {
      stands = record { state = start policy; sound = sound_start policy r.accepted; stood = r.stands; has = λ m q e. absurd (cc) };
      same = r.policy;
      room = refl;
      pushes = omega (arith, r.no_pushes);
      departures = refl;
    }

pub arrive-requires : goal.arrive-requires
arrive-requires g c =
    let policy = c.args.policy.now.policy in
    let i = c.loop-number.invariant in
    let one = i.stands in
    let p = packet c.loop-number.number in
    record {
      can = record {
        accepted = rw (i.same) c.requires.accepted;
        stands = asked g.C.Scheduler.stands _ policy i.same c.requires.accepted _ _ (λ q s. CanArrive q s p)
            (record { state = one.state; sound = one.sound; stood = one.stood; has = can_come policy one.state p (packet_in policy c.requires.accepted c.loop-number.number) one.has });
        room = rw (i.same) (omega (arith, c.requires.room, i.room));
        few = omega (arith, i.pushes);
      };
    }

pub loop-number-preserved : goal.loop-number-preserved
loop-number-preserved g c =
    let policy = c.args.policy.now.policy in
    let i = c.loop-number.invariant in
    let e = c.arrive.ensures in
    let p = packet c.loop-number.number in
    record {
      stands = stands_tried g.C.Scheduler.stands _ policy i.same c.requires.accepted _ _ _ _ p c.arrive.result (packet_in policy c.requires.accepted c.loop-number.number) e.state i.stands;
      same = e.kept.policy ∙ i.same;
      room = e.path.room ∙ i.room;
      pushes = omega (arith, e.counts.pushes, one_push_at_most c.arrive.result, i.pushes);
      departures = e.counts.departures ∙ i.departures;
    }
