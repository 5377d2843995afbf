use Rattle.sched_run.proofs.Prelude.{arith, ◌∙◌, refl, sym, subst, [], ◌∷◌, err_from_is_err_and, Policy, IsSendable, recording, IsCapturedAs}
use Rattle.sched_run.proofs.MadeEvents.{can_arrive, makes_none, stops_none}
use Rattle.sched_run.proofs.PacketsInTurn.{none_first, one_first}
use Rattle.sched_run.proofs.RecordingLaws.{recording-joined, recording_gives, makes_so, stops_so}
use Rattle.sched_defs.specs.Events.{Arrive}
use Rattle.sched_run.proofs.run.Run.arrive_next.Goals as goal

pub make_arrival-requires-clause-stands : goal.make_arrival-requires-clause-stands
make_arrival-requires-clause-stands g c =
    let one = c.requires.stands in
    let number = (c.in-Ok-true.ensures.next c.in-Ok-true.field-0-test).number in
    let sendable = subst (λ (q : Policy). IsSendable q c.next.new.packet) c.requires.feeds.packets (c.in-Ok-true.ensures.next c.in-Ok-true.field-0-test).sendable in
    record { state = one.state; sound = one.sound; stood = one.stood; has = can_arrive (g.C.Scheduler.policy c.args.self.now.scheduler) one.state c.next.new.packet _ number sendable one.has }

pub returns-in_err-make_arrival-in-Ok-true-clause-err : goal.returns-in_err-make_arrival-in-Ok-true-clause-err
returns-in_err-make_arrival-in-Ok-true-clause-err g c =
    let p = err_from_is_err_and c.from_residual.result c.from_residual.ensures.1 in
    let number = (c.in-Ok-true.ensures.next c.in-Ok-true.field-0-test).number in
    let sendable = subst (λ (q : Policy). IsSendable q c.next.new.packet) c.requires.feeds.packets (c.in-Ok-true.ensures.next c.in-Ok-true.field-0-test).sendable in
    let known = (c.in-Ok-true.ensures.next c.in-Ok-true.field-0-test).bytes in
    rw (p.1) (record {
      packets = c.next.new.packet ∷ [];
      count = omega arith;
      first = one_first _ _ (c.next.new.packet ∷ []) (c.in-Ok-true.ensures.next c.in-Ok-true.field-0-test).came;
      stop = stops_so g.C.Scheduler (recording_gives g.W.Recorder (IsCapturedAs c.next.new.packet c.captured.result.now) (g.P.Packets.captures c.args.packets.now c.args.source.now) (λ bytes are. known bytes are ∙ sym c.captured.ensures)) (g.C.Scheduler.policy c.args.self.now.scheduler)
          (Arrive c.next.new.packet ∷ []) _ _ _ _ (c.in_err-make_arrival-in-Ok-true.ensures.err _ (record { numbered = (number, tt); sendable = (sendable, tt) }));
    })

pub returns-in_ok-make_arrival-in-Ok-true-clause-ok : goal.returns-in_ok-make_arrival-in-Ok-true-clause-ok
returns-in_ok-make_arrival-in-Ok-true-clause-ok g c =
    let number = (c.in-Ok-true.ensures.next c.in-Ok-true.field-0-test).number in
    let sendable = subst (λ (q : Policy). IsSendable q c.next.new.packet) c.requires.feeds.packets (c.in-Ok-true.ensures.next c.in-Ok-true.field-0-test).sendable in
    let given = rw c.in-Ok-true.field-0-test at c.in-Ok-true.ensures.moves.given in
    let known = (c.in-Ok-true.ensures.next c.in-Ok-true.field-0-test).bytes in
    record {
      packets = c.next.new.packet ∷ [];
      count = refl;
      came = (c.in-Ok-true.ensures.next c.in-Ok-true.field-0-test).came;
      made = makes_so g.C.Scheduler (recording_gives g.W.Recorder (IsCapturedAs c.next.new.packet c.captured.result.now) (g.P.Packets.captures c.args.packets.now c.args.source.now) (λ bytes are. known bytes are ∙ sym c.captured.ensures)) (g.C.Scheduler.policy c.args.self.now.scheduler)
          (Arrive c.next.new.packet ∷ []) _ _ (rw given (c.in_ok-make_arrival-in-Ok-true.ensures.ok _ (record { numbered = (number, tt); sendable = (sendable, tt) })));
    }

pub returns-in-Ok-false-clause-ok : goal.returns-in-Ok-false-clause-ok
returns-in-Ok-false-clause-ok g c = record {
  packets = [];
  count = omega arith;
  came = (refl, (c.in-Ok-false.ensures.ended c.in-Ok-false.field-0-test).none, (c.in-Ok-false.ensures.ended c.in-Ok-false.field-0-test).over);
  made = makes_none g.C.Scheduler (recording g.W.Recorder (g.P.Packets.captures c.args.packets.now c.args.source.now)) (recording-joined g.W.Recorder g.met.W.Recorder.joined (g.P.Packets.captures c.args.packets.now c.args.source.now)) (g.C.Scheduler.policy c.args.self.now.scheduler) _ _ _ _ _ _ _ _;
}

pub returns-in-Err-Fault-clause-ok : goal.returns-in-Err-Fault-clause-ok
returns-in-Err-Fault-clause-ok g c = record {
  packets = [];
  count = omega arith;
  came = rw (c.in-Err-Fault.code-is, c.in-Err-Fault.place-is) (rw c.in-Err-Fault.field-0-is at c.in-Err-Fault.ensures.fault);
  made = makes_none g.C.Scheduler (recording g.W.Recorder (g.P.Packets.captures c.args.packets.now c.args.source.now)) (recording-joined g.W.Recorder g.met.W.Recorder.joined (g.P.Packets.captures c.args.packets.now c.args.source.now)) (g.C.Scheduler.policy c.args.self.now.scheduler) _ _ _ _ _ _ _ _;
}

pub returns-in-Err-Source-clause-err : goal.returns-in-Err-Source-clause-err
returns-in-Err-Source-clause-err g c = record {
  packets = [];
  count = omega arith;
  first = none_first (g.P.Packets.left c.args.packets.now c.args.source.now);
  stop = stops_none g.C.Scheduler (recording g.W.Recorder (g.P.Packets.captures c.args.packets.now c.args.source.now)) (recording-joined g.W.Recorder g.met.W.Recorder.joined (g.P.Packets.captures c.args.packets.now c.args.source.now)) (g.C.Scheduler.policy c.args.self.now.scheduler) _ _ _ _ _ _ _;
}

pub returns-in-Err-Memory-clause-err : goal.returns-in-Err-Memory-clause-err
returns-in-Err-Memory-clause-err g c = record {
  packets = [];
  count = omega arith;
  first = none_first (g.P.Packets.left c.args.packets.now c.args.source.now);
  stop = stops_none g.C.Scheduler (recording g.W.Recorder (g.P.Packets.captures c.args.packets.now c.args.source.now)) (recording-joined g.W.Recorder g.met.W.Recorder.joined (g.P.Packets.captures c.args.packets.now c.args.source.now)) (g.C.Scheduler.policy c.args.self.now.scheduler) _ _ _ _ _ _ _;
}
