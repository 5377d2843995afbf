use Rattle.sched_run.proofs.Prelude.{ℕ, arith, ◌∙◌, ◌≡◌, refl, sym, subst, ◌+◌, err_from_is_err_and, sink-then, sink-same, IsHeldBelow, recording, any_bytes, IsCapturedAs}
use Rattle.sched_run.proofs.AgendaLaws.{run_stops_going, run_goes, run_ends, run_breaks, run_first, run_ready, run_room}
use Rattle.sched_run.proofs.FrameLaws.{continues_then, keeps_then}
use Rattle.sched_run.proofs.LinkLaws.{same_sends, same_first, link_begins, link_goes, link_stops, link_first, link_drains, link_drain_stops, link_drain_first}
use Rattle.sched_run.proofs.RecordingLaws.{recording-joined, recording_gives, sends_so, sends_first_so, sends_amid_so}
use Rattle.sched_run.proofs.run.Run.play_link.Goals as goal

pub loop-packets-init : goal.loop-packets-init
loop-packets-init g c =
    let S = g.C.Scheduler in
    let policy = S.policy c.args.self.now.scheduler in
    record {
      run = link_begins S (recording g.W.Recorder (g.P.Packets.captures c.args.packets.now c.args.source.now)) (recording-joined g.W.Recorder g.met.W.Recorder.joined (g.P.Packets.captures c.args.packets.now c.args.source.now)) policy c.args.rate c.new-link.result c.new-link.ensures _ _ _ _ _ _ _ _;
      early = omega (arith, c.new-link.ensures);
      further = record { ready = c.requires.begins.feeds.ready; known = λ bytes are. are; given = refl; few = c.requires.begins.counts.few };
      kept = record { policy = refl; origin = refl; names = refl; version = refl; room = refl };
      fewer = omega arith;
      kept_sink = sink-same _ _ _;
      kept_packets = record { policy = refl; later = omega arith };
      going = c.requires.paced.going;
      live = c.requires.set.live;
    }

pub arrive_paced-requires-clause-stands : goal.arrive_paced-requires-clause-stands
arrive_paced-requires-clause-stands g c =
    let S = g.C.Scheduler in
    let i = c.loop-packets.invariant in
    let number = (c.in-Ok-true.ensures.next c.in-Ok-true.field-0-test).number in
    let ready = run_ready S (recording g.W.Recorder (g.P.Packets.captures c.args.packets.now c.args.source.now)) (recording-joined g.W.Recorder g.met.W.Recorder.joined (g.P.Packets.captures c.args.packets.now c.args.source.now)) (S.policy c.args.self.now.scheduler) c.requires.set.accepted _ _ _ _ _ _ _ _ i.further.given i.further.few c.requires.begins.fresh (omega arith) c.requires.stands i.run in
    rw i.kept.policy (record {
      state = ready.state;
      sound = ready.sound;
      stood = ready.stood;
      has = (subst (λ (n : ℕ). IsHeldBelow n ready.state.held) (sym number) ready.has.held, record { number = _; below = ready.has.held; few = ready.has.few });
    })

pub arrive_paced-requires-clause-paced : goal.arrive_paced-requires-clause-paced
arrive_paced-requires-clause-paced g c =
    let S = g.C.Scheduler in
    let i = c.loop-packets.invariant in
    let room = run_room S (recording g.W.Recorder (g.P.Packets.captures c.args.packets.now c.args.source.now)) (recording-joined g.W.Recorder g.met.W.Recorder.joined (g.P.Packets.captures c.args.packets.now c.args.source.now)) (S.policy c.args.self.now.scheduler) c.requires.set.accepted _ _ _ _ _ _ _ _ i.further.given i.further.few c.requires.begins.fresh (omega arith) c.requires.stands i.run c.requires.begins.counts in
    record {
      paced = record { going = i.going; counts = record { departures_fit = room.departures_fit; few_asked = room.few_asked; few_came = omega (arith, room.came, room.few) }; rate = c.requires.paced.rate; early = i.early };
      room = record { pushes = omega (arith, room.pushes_fit, room.came, room.few); events = omega (arith, room.came, room.few, room.few_asked); dropped = room.dropped };
    }

pub loop-packets-preserved : goal.loop-packets-preserved
loop-packets-preserved g c =
    let S = g.C.Scheduler in
    let policy = S.policy c.args.self.now.scheduler in
    let i = c.loop-packets.invariant in
    let e = c.in_ok-over-in-Ok-true.ensures in
    let n = c.in-Ok-true.ensures in
    let number = (n.next c.in-Ok-true.field-0-test).number in
    let given : g.P.Packets.given c.next.new.self ≡ g.P.Packets.given c.loop-packets.packets + 1 = rw c.in-Ok-true.field-0-test at n.moves.given in
    let came = (n.next c.in-Ok-true.field-0-test).came in
    let known = (n.next c.in-Ok-true.field-0-test).bytes in
    let sends = rw (i.kept.policy, c.if-over.false) at e.ok in
    let one_came = rw c.if-over.false at e.paces.came in
    record {
      run = run_goes S (recording g.W.Recorder (g.P.Packets.captures c.args.packets.now c.args.source.now)) (recording-joined g.W.Recorder g.met.W.Recorder.joined (g.P.Packets.captures c.args.packets.now c.args.source.now)) policy c.requires.set.accepted _ _ _ _ _ _ _ _ i.further.given i.run _ _ _ _
          (link_goes S (recording g.W.Recorder (g.P.Packets.captures c.args.packets.now c.args.source.now)) policy c.args.rate c.loop-packets.link c.next.new.packet c.arrive_paced.new.link _ _ _ _ came (same_sends S (recording g.W.Recorder (g.P.Packets.captures c.args.packets.now c.args.source.now)) policy _ _ _ _ _ _ _ _ _ _ _ (sym given) (sends_so S (recording_gives g.W.Recorder (IsCapturedAs c.next.new.packet c.captured-captured.result.now) (g.P.Packets.captures c.args.packets.now c.args.source.now) (λ bytes are. known bytes (i.further.known bytes are) ∙ sym c.captured-captured.ensures)) policy _ _ _ _ (sends _ number))));
      early = e.paces.early;
      further = record { ready = n.moves.ready; known = λ bytes are. n.known bytes (i.further.known bytes are); given = omega (arith, i.further.given, given, one_came); few = n.moves.few };
      kept = continues_then S _ _ _ i.kept e.keeps.kept;
      fewer = omega (arith, i.fewer, e.keeps.fewer);
      kept_sink = sink-then _ _ _ _ _ i.kept_sink e.keeps.kept_sink;
      kept_packets = keeps_then g.P.Packets _ _ _ _ _ _ i.kept_packets (record { policy = n.policy; later = n.source.later });
      going = e.paces.over ∙ c.if-over.false;
      live = e.keeps.live;
    }

pub returns-in_err-over-in-Ok-true-clause-err : goal.returns-in_err-over-in-Ok-true-clause-err
returns-in_err-over-in-Ok-true-clause-err g c =
    let p = err_from_is_err_and c.from_residual.result c.from_residual.ensures.1 in
    let S = g.C.Scheduler in
    let policy = S.policy c.args.self.now.scheduler in
    let i = c.loop-packets.invariant in
    let number = (c.in-Ok-true.ensures.next c.in-Ok-true.field-0-test).number in
    let came = (c.in-Ok-true.ensures.next c.in-Ok-true.field-0-test).came in
    let known = (c.in-Ok-true.ensures.next c.in-Ok-true.field-0-test).bytes in
    let amid = rw i.kept.policy at c.in_err-over-in-Ok-true.ensures.err in
    rw (p.1) (run_breaks S (recording g.W.Recorder (g.P.Packets.captures c.args.packets.now c.args.source.now)) (recording-joined g.W.Recorder g.met.W.Recorder.joined (g.P.Packets.captures c.args.packets.now c.args.source.now)) policy c.requires.set.accepted _ _ _ _ _ _ _ _ i.further.given i.run g.W.Recorder.over _ _ _
    (link_stops S (recording g.W.Recorder (g.P.Packets.captures c.args.packets.now c.args.source.now)) policy c.args.rate c.loop-packets.link g.W.Recorder.over c.next.new.packet _ _ _ _ _ _ came (sends_amid_so S (recording_gives g.W.Recorder (IsCapturedAs c.next.new.packet c.captured-captured.result.now) (g.P.Packets.captures c.args.packets.now c.args.source.now) (λ bytes are. known bytes (i.further.known bytes are) ∙ sym c.captured-captured.ensures)) policy g.W.Recorder.over _ _ _ _ _ (amid _ number))))

pub send_until-requires-clause-stands : goal.send_until-requires-clause-stands
send_until-requires-clause-stands g c =
    let S = g.C.Scheduler in
    let i = c.loop-packets.invariant in
    let ready = run_ready S (recording g.W.Recorder (g.P.Packets.captures c.args.packets.now c.args.source.now)) (recording-joined g.W.Recorder g.met.W.Recorder.joined (g.P.Packets.captures c.args.packets.now c.args.source.now)) (S.policy c.args.self.now.scheduler) c.requires.set.accepted _ _ _ _ _ _ _ _ i.further.given i.further.few c.requires.begins.fresh (omega arith) c.requires.stands i.run in
    rw i.kept.policy (record { state = ready.state; sound = ready.sound; stood = ready.stood; has = record { number = _; below = ready.has.held; few = ready.has.few } })

pub send_until-requires-clause-paced : goal.send_until-requires-clause-paced
send_until-requires-clause-paced g c =
    let S = g.C.Scheduler in
    let i = c.loop-packets.invariant in
    let room = run_room S (recording g.W.Recorder (g.P.Packets.captures c.args.packets.now c.args.source.now)) (recording-joined g.W.Recorder g.met.W.Recorder.joined (g.P.Packets.captures c.args.packets.now c.args.source.now)) (S.policy c.args.self.now.scheduler) c.requires.set.accepted _ _ _ _ _ _ _ _ i.further.given i.further.few c.requires.begins.fresh (omega arith) c.requires.stands i.run c.requires.begins.counts in
    record { going = i.going; counts = record { departures_fit = room.departures_fit; few_asked = room.few_asked; few_came = omega (arith, room.came, room.few) }; rate = c.requires.paced.rate; early = i.early }

pub returns-in_err-over-in-Ok-false-clause-err : goal.returns-in_err-over-in-Ok-false-clause-err
returns-in_err-over-in-Ok-false-clause-err g c =
    let p = err_from_is_err_and c.from_residual-in_err-over-in-Ok-false.result c.from_residual-in_err-over-in-Ok-false.ensures.1 in
    let S = g.C.Scheduler in
    let policy = S.policy c.args.self.now.scheduler in
    let i = c.loop-packets.invariant in
    let none = (c.in-Ok-false.ensures.ended c.in-Ok-false.field-0-test).none in
    let over = (c.in-Ok-false.ensures.ended c.in-Ok-false.field-0-test).over in
    let amid = rw i.kept.policy at c.in_err-over-in-Ok-false.ensures.err in
    rw (p.1) (run_breaks S (recording g.W.Recorder (g.P.Packets.captures c.args.packets.now c.args.source.now)) (recording-joined g.W.Recorder g.met.W.Recorder.joined (g.P.Packets.captures c.args.packets.now c.args.source.now)) policy c.requires.set.accepted _ _ _ _ _ _ _ _ i.further.given i.run g.W.Recorder.over _ _ _
    (link_drain_stops S (recording g.W.Recorder (g.P.Packets.captures c.args.packets.now c.args.source.now)) policy c.args.rate c.loop-packets.link g.W.Recorder.over _ _ _ _ _ _ none over (sends_amid_so S (recording_gives g.W.Recorder any_bytes (g.P.Packets.captures c.args.packets.now c.args.source.now) (λ bytes are. tt)) policy g.W.Recorder.over _ _ _ _ _ (amid _))))

pub returns-in-Ok-false-clause-ok : goal.returns-in-Ok-false-clause-ok
returns-in-Ok-false-clause-ok g c =
    let S = g.C.Scheduler in
    let policy = S.policy c.args.self.now.scheduler in
    let i = c.loop-packets.invariant in
    let none = (c.in-Ok-false.ensures.ended c.in-Ok-false.field-0-test).none in
    let over = (c.in-Ok-false.ensures.ended c.in-Ok-false.field-0-test).over in
    let given : g.P.Packets.given c.next.new.self ≡ g.P.Packets.given c.loop-packets.packets = (let e = rw c.in-Ok-false.field-0-test at c.in-Ok-false.ensures.moves.given in omega (arith, e)) in
    let sends = rw (i.kept.policy, c.if-over-2.false) at c.in_ok-over-in-Ok-false.ensures.ok in
    run_ends S (recording g.W.Recorder (g.P.Packets.captures c.args.packets.now c.args.source.now)) (recording-joined g.W.Recorder g.met.W.Recorder.joined (g.P.Packets.captures c.args.packets.now c.args.source.now)) policy c.requires.set.accepted _ _ _ _ _ _ _ _ i.further.given i.run _ _
    (link_drains S (recording g.W.Recorder (g.P.Packets.captures c.args.packets.now c.args.source.now)) policy c.args.rate c.loop-packets.link c.send_until.new.link _ _ _ _ none over (same_sends S (recording g.W.Recorder (g.P.Packets.captures c.args.packets.now c.args.source.now)) policy _ _ _ _ _ _ _ _ _ _ _ (sym given) (sends_so S (recording_gives g.W.Recorder any_bytes (g.P.Packets.captures c.args.packets.now c.args.source.now) (λ bytes are. tt)) policy _ _ _ _ (sends _))))

pub returns-in-Err-Source-clause-err : goal.returns-in-Err-Source-clause-err
returns-in-Err-Source-clause-err g c =
    let i = c.loop-packets.invariant in
    run_stops_going g.C.Scheduler (recording g.W.Recorder (g.P.Packets.captures c.args.packets.now c.args.source.now)) (recording-joined g.W.Recorder g.met.W.Recorder.joined (g.P.Packets.captures c.args.packets.now c.args.source.now)) (g.C.Scheduler.policy c.args.self.now.scheduler) c.requires.set.accepted _ _ _ _ _ _ _ _ i.further.given i.run g.W.Recorder.over i.going

pub returns-in-Err-Memory-clause-err : goal.returns-in-Err-Memory-clause-err
returns-in-Err-Memory-clause-err g c =
    let i = c.loop-packets.invariant in
    run_stops_going g.C.Scheduler (recording g.W.Recorder (g.P.Packets.captures c.args.packets.now c.args.source.now)) (recording-joined g.W.Recorder g.met.W.Recorder.joined (g.P.Packets.captures c.args.packets.now c.args.source.now)) (g.C.Scheduler.policy c.args.self.now.scheduler) c.requires.set.accepted _ _ _ _ _ _ _ _ i.further.given i.run g.W.Recorder.over i.going

-- nothing more can be recorded in the turn of a packet
pub returns-then-over-clause-ok : goal.returns-then-over-clause-ok
returns-then-over-clause-ok g c =
    let S = g.C.Scheduler in
    let policy = S.policy c.args.self.now.scheduler in
    let i = c.loop-packets.invariant in
    let e = c.in_ok-over-in-Ok-true.ensures in
    let number = (c.in-Ok-true.ensures.next c.in-Ok-true.field-0-test).number in
    let came = (c.in-Ok-true.ensures.next c.in-Ok-true.field-0-test).came in
    let known = (c.in-Ok-true.ensures.next c.in-Ok-true.field-0-test).bytes in
    let sends = rw (i.kept.policy, c.if-over.true) at e.ok in
    run_first S (recording g.W.Recorder (g.P.Packets.captures c.args.packets.now c.args.source.now)) (recording-joined g.W.Recorder g.met.W.Recorder.joined (g.P.Packets.captures c.args.packets.now c.args.source.now)) policy c.requires.set.accepted _ _ _ _ _ _ _ _ i.further.given i.run g.W.Recorder.over _
    (link_first S (recording g.W.Recorder (g.P.Packets.captures c.args.packets.now c.args.source.now)) policy c.args.rate c.loop-packets.link g.W.Recorder.over c.next.new.packet _ _ _ _ came (same_first S (recording g.W.Recorder (g.P.Packets.captures c.args.packets.now c.args.source.now)) (recording-joined g.W.Recorder g.met.W.Recorder.joined (g.P.Packets.captures c.args.packets.now c.args.source.now)) g.W.Recorder.over policy _ _ _ _ _ _ _ _ _ _ (sends_first_so S (recording_gives g.W.Recorder (IsCapturedAs c.next.new.packet c.captured-captured.result.now) (g.P.Packets.captures c.args.packets.now c.args.source.now) (λ bytes are. known bytes (i.further.known bytes are) ∙ sym c.captured-captured.ensures)) policy g.W.Recorder.over _ _ _ (sends _ number))))

-- nothing more can be recorded after the last packet
pub returns-then-over-2-clause-ok : goal.returns-then-over-2-clause-ok
returns-then-over-2-clause-ok g c =
    let S = g.C.Scheduler in
    let policy = S.policy c.args.self.now.scheduler in
    let i = c.loop-packets.invariant in
    let none = (c.in-Ok-false.ensures.ended c.in-Ok-false.field-0-test).none in
    let over = (c.in-Ok-false.ensures.ended c.in-Ok-false.field-0-test).over in
    let sends = rw (i.kept.policy, c.if-over-2.true) at c.in_ok-over-in-Ok-false.ensures.ok in
    run_first S (recording g.W.Recorder (g.P.Packets.captures c.args.packets.now c.args.source.now)) (recording-joined g.W.Recorder g.met.W.Recorder.joined (g.P.Packets.captures c.args.packets.now c.args.source.now)) policy c.requires.set.accepted _ _ _ _ _ _ _ _ i.further.given i.run g.W.Recorder.over _
    (link_drain_first S (recording g.W.Recorder (g.P.Packets.captures c.args.packets.now c.args.source.now)) policy c.args.rate c.loop-packets.link g.W.Recorder.over _ _ _ _ none over (same_first S (recording g.W.Recorder (g.P.Packets.captures c.args.packets.now c.args.source.now)) (recording-joined g.W.Recorder g.met.W.Recorder.joined (g.P.Packets.captures c.args.packets.now c.args.source.now)) g.W.Recorder.over policy _ _ _ _ _ _ _ _ _ _ (sends_first_so S (recording_gives g.W.Recorder any_bytes (g.P.Packets.captures c.args.packets.now c.args.source.now) (λ bytes are. tt)) policy g.W.Recorder.over _ _ _ (sends _))))
