use Rattle.sched_run.proofs.Prelude.{ℕ, arith, ◌∙◌, ◌≡◌, refl, sym, subst, ap, add-one, err_from_is_err_and, sink-then, sink-same, IsHeldBelow, recording_none, no_bytes, first_drawing, load_events, load_next, Drawing}
use Rattle.sched_run.proofs.FrameLaws.{continues_then, sink_cause_after}
use Rattle.sched_run.proofs.LoadLaws.{is_drawn, load_room, load_arrivals, load_arrivals-more, load_goes, load_stops}
use Rattle.sched_run.proofs.MadeEvents.{makes_none}
use Rattle.sched_run.proofs.PacketsInTurn.{one_after}
use Rattle.sched_run.proofs.RecordingLaws.{recording-joined}
use Rattle.sched_run.proofs.run.Run.play_drawings.Goals as goal

pub loop-drawn-init : goal.loop-drawn-init
loop-drawn-init g c =
    let S = g.C.Scheduler in
    let is = c.new-drawing.ensures in
    record {
      made = makes_none S (recording_none g.W.Recorder) (recording-joined g.W.Recorder g.met.W.Recorder.joined no_bytes) (S.policy c.args.self.now.scheduler) _ _ _ _ 0 0 _ _;
      drawing = is;
      number = ap (λ (d : Drawing). d.number) is;
      moment = omega (arith, ap (λ (d : Drawing). d.moment) is);
      kept = record { policy = refl; origin = refl; names = refl; version = refl; room = refl };
      fewer = omega arith;
      kept_sink = sink-same _ _ _;
      live = c.requires.set.live;
    }

pub play_drawn-requires-clause-stands : goal.play_drawn-requires-clause-stands
play_drawn-requires-clause-stands g c =
    let S = g.C.Scheduler in
    let i = c.loop-drawn.invariant in
    let one = c.requires.stands in
    let at = one_after S (recording_none g.W.Recorder) (recording-joined g.W.Recorder g.met.W.Recorder.joined no_bytes) (S.policy c.args.self.now.scheduler) c.requires.set.accepted (load_events c.loop-drawn._drawn (first_drawing c.args.seed)) _ _ (omega (arith, i.made.came)) i.made
    (record { state = one.state; sound = one.sound; stood = one.stood; has = one.has.held }) in
    rw i.kept.policy (record { state = at.state; sound = at.sound; stood = at.stood; has = subst (λ (n : ℕ). IsHeldBelow n at.state.held) (sym i.number) at.has })

pub play_drawn-requires-clause-draws : goal.play_drawn-requires-clause-draws
play_drawn-requires-clause-draws g c =
    let i = c.loop-drawn.invariant in
    record {
      classes = rw i.kept.policy c.requires.loads.classes;
      early = omega (arith, i.moment, c.loop-drawn-test.true, c.requires.loads.short);
      few = omega (arith, i.number, load_arrivals c.loop-drawn._drawn (first_drawing c.args.seed), c.loop-drawn-test.true, c.requires.loads.short);
    }

pub play_drawn-requires-clause-room : goal.play_drawn-requires-clause-room
play_drawn-requires-clause-room g c =
    let S = g.C.Scheduler in
    let room = load_room S (recording_none g.W.Recorder) (recording-joined g.W.Recorder g.met.W.Recorder.joined no_bytes) (S.policy c.args.self.now.scheduler) c.requires.set.accepted c.loop-drawn._drawn (first_drawing c.args.seed) _ _ (omega (arith, c.loop-drawn-test.true, c.requires.loads.short)) c.requires.fresh c.requires.room.pushes c.requires.room.departures c.loop-drawn.invariant.made c.requires.stands in
    record {
      arrival = record { pushes = omega (arith, room.pushes_fit); events = omega (arith, room.events); dropped = room.dropped };
      departures = omega (arith, room.departures_fit);
    }

pub returns-in_err-play_drawn-clause-err : goal.returns-in_err-play_drawn-clause-err
returns-in_err-play_drawn-clause-err g c =
    let p = err_from_is_err_and c.from_residual.result c.from_residual.ensures.1 in
    let S = g.C.Scheduler in
    let i = c.loop-drawn.invariant in
    let stop = rw i.kept.policy at c.in_err-play_drawn.ensures.err in
    rw (p.1) (load_stops S (recording_none g.W.Recorder) (recording-joined g.W.Recorder g.met.W.Recorder.joined no_bytes) (S.policy c.args.self.now.scheduler) c.requires.set.accepted c.loop-drawn._drawn c.args.count (first_drawing c.args.seed) c.loop-drawn.drawing _ _ _ _ _ c.loop-drawn-test.true c.requires.loads.classes (omega (arith, c.requires.loads.short)) refl i.drawing (omega arith) i.made
    (stop _ i.number))

pub returns-in_err-play_drawn-clause-keeps : goal.returns-in_err-play_drawn-clause-keeps
returns-in_err-play_drawn-clause-keeps g c =
    let p = err_from_is_err_and c.from_residual.result c.from_residual.ensures.1 in
    let i = c.loop-drawn.invariant in
    let e = c.in_err-play_drawn.ensures.keeps in
    rw (p.1, p.2) (record {
      kept = continues_then g.C.Scheduler _ _ _ i.kept e.kept;
      live = tt;
      fewer = omega (arith, i.fewer, e.fewer);
      kept_sink = sink-then _ _ _ _ _ i.kept_sink e.kept_sink;
      cause = sink_cause_after _ g.K.Sink.faults _ _ _ i.kept_sink.later e.cause;
    })

pub loop-drawn-preserved : goal.loop-drawn-preserved
loop-drawn-preserved g c =
    let S = g.C.Scheduler in
    let i = c.loop-drawn.invariant in
    let e = c.in_ok-play_drawn.ensures in
    let d = first_drawing c.args.seed in
    let made = rw i.kept.policy at e.ok in
    let one = is_drawn c.loop-drawn.drawing in
    let next : c.play_drawn.new.drawing ≡ load_next c.loop-drawn.drawing = e.next in
    record {
      made = load_goes S (recording_none g.W.Recorder) (recording-joined g.W.Recorder g.met.W.Recorder.joined no_bytes) (S.policy c.args.self.now.scheduler) c.requires.set.accepted c.loop-drawn._drawn d c.loop-drawn.drawing _ _ _ _ _ _ _ _ _ _ i.drawing (omega arith) i.made (made _ i.number);
      drawing = rw (add-one c.loop-drawn._drawn) (next ∙ ap (λ (x : Drawing). load_next x) i.drawing);
      number = omega (arith, ap (λ (x : Drawing). x.number) next, one.number, i.number, load_arrivals-more c.loop-drawn._drawn d c.loop-drawn.drawing i.drawing);
      moment = omega (arith, ap (λ (x : Drawing). x.moment) next, one.moment, i.moment);
      kept = continues_then S _ _ _ i.kept e.keeps.kept;
      fewer = omega (arith, i.fewer, e.keeps.fewer);
      kept_sink = sink-then _ _ _ _ _ i.kept_sink e.keeps.kept_sink;
      live = e.keeps.live;
    }

pub returns-clause-ok : goal.returns-clause-ok
returns-clause-ok g c =
    let all : c.args.count ≡ c.loop-drawn._drawn = omega arith in
    rw all c.loop-drawn.invariant.made
