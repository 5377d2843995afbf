use Rattle.sched_run.proofs.Prelude.{ℕ, arith, None, ◌∙◌, ◌≡◌, refl, sym, ◌+◌, ap, replicate, err_from_is_err_and, sink-then, sink-same, departures_count, Depart, any_bytes, recording_any}
use Rattle.sched_run.proofs.FrameLaws.{continues_then}
use Rattle.sched_run.proofs.MadeEvents.{held_bounded, makes_none, departures_more, departures_cut}
use Rattle.sched_run.proofs.PacketsInTurn.{one_after}
use Rattle.sched_run.proofs.RecordingLaws.{recording-joined}
use Rattle.sched_run.proofs.run.Run.depart_some.Goals as goal

pub loop-made-init : goal.loop-made-init
loop-made-init g c = record {
  makes = λ given. makes_none g.C.Scheduler (recording_any g.W.Recorder) (recording-joined g.W.Recorder g.met.W.Recorder.joined any_bytes) (g.C.Scheduler.policy c.args.self.now.scheduler) _ _ _ _ given given _ _;
  came = refl;
  asked = omega arith;
  kept = record { policy = refl; origin = refl; names = refl; version = refl; room = refl };
  fewer = omega arith;
  kept_sink = sink-same _ _ _;
  live = c.requires.set.live;
}

pub depart_next-requires-clause-stands : goal.depart_next-requires-clause-stands
depart_next-requires-clause-stands g c =
    let policy = g.C.Scheduler.policy c.args.self.now.scheduler in
    let i = c.loop-made.invariant in
    let one = c.requires.stands in
    let bound = held_bounded policy one.state one.sound in
    let at = one_after g.C.Scheduler (recording_any g.W.Recorder) (recording-joined g.W.Recorder g.met.W.Recorder.joined any_bytes) policy c.requires.set.accepted (replicate c.loop-made._made (Depart None)) _ _ (ap (λ (n : ℕ). bound.0 + n) (sym i.came)) (i.makes bound.0)
    (record { state = one.state; sound = one.sound; stood = one.stood; has = bound.1 }) in
    rw i.kept.policy (record { state = at.state; sound = at.sound; stood = at.stood; has = tt })

pub depart_next-requires-clause-room : goal.depart_next-requires-clause-room
depart_next-requires-clause-room g c =
    let policy = g.C.Scheduler.policy c.args.self.now.scheduler in
    let one = c.requires.stands in
    let bound = held_bounded policy one.state one.sound in
    let leaves = ((c.loop-made.invariant.makes bound.0).played one.state one.sound one.stood bound.1).leaves in
    record {
      departures = omega (arith, leaves.asked, (departures_count policy c.loop-made._made None one.state).asked, c.loop-made-test.true, c.requires.room.departures);
      events = let i = c.loop-made.invariant in omega (arith, i.came, i.asked, c.loop-made-test.true, c.requires.room.events);
    }

pub returns-in_err-depart_next-clause-err : goal.returns-in_err-depart_next-clause-err
returns-in_err-depart_next-clause-err g c =
    let p = err_from_is_err_and c.from_residual.result c.from_residual.ensures.1 in
    let i = c.loop-made.invariant in
    let stop = rw i.kept.policy at c.in_err-depart_next.ensures.err in
    rw (p.1) (λ given. departures_cut g.C.Scheduler (recording_any g.W.Recorder) (recording-joined g.W.Recorder g.met.W.Recorder.joined any_bytes) (g.C.Scheduler.policy c.args.self.now.scheduler) c.requires.set.accepted c.loop-made._made _ _ refl (i.makes given) c.args.count _ _ _ c.loop-made-test.true (stop given))

pub loop-made-preserved : goal.loop-made-preserved
loop-made-preserved g c =
    let i = c.loop-made.invariant in
    let e = c.in_ok-depart_next.ensures in
    let made = rw i.kept.policy at e.ok in
    record {
      makes = λ given. departures_more g.C.Scheduler (recording_any g.W.Recorder) (recording-joined g.W.Recorder g.met.W.Recorder.joined any_bytes) (g.C.Scheduler.policy c.args.self.now.scheduler) c.requires.set.accepted c.loop-made._made _ _ refl (i.makes given) _ (made given);
      came = e.counts.came ∙ i.came;
      asked = omega (arith, e.counts.asked, i.asked);
      kept = continues_then g.C.Scheduler _ _ _ i.kept e.keeps.kept;
      fewer = omega (arith, i.fewer, e.keeps.fewer);
      kept_sink = sink-then _ _ _ _ _ i.kept_sink e.keeps.kept_sink;
      live = e.keeps.live;
    }

pub returns-clause-ok : goal.returns-clause-ok
returns-clause-ok g c =
    let all : c.args.count ≡ c.loop-made._made = omega arith in
    rw all c.loop-made.invariant.makes
