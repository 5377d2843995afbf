use Rattle.sched_run.proofs.Prelude.{arith, ◌∙◌, ◌≡◌, refl, sym, true, err_from_is_err_and, sink-then, sink-same, any_bytes, recording_any}
use Rattle.sched_run.proofs.FrameLaws.{continues_then}
use Rattle.sched_run.proofs.LinkLaws.{sends_none, sends_waits, sends_over, sends_stand, sends_asked, sends_goes, sends_first, sends_stops}
use Rattle.sched_run.proofs.MadeEvents.{held_more}
use Rattle.sched_run.proofs.RecordingLaws.{recording-joined}
use Rattle.sched_run.proofs.run.Run.send_until.Goals as goal

pub loop-sent-init : goal.loop-sent-init
loop-sent-init g c = record {
  sends = λ given. sends_none g.C.Scheduler (recording_any g.W.Recorder) (recording-joined g.W.Recorder g.met.W.Recorder.joined any_bytes) (g.C.Scheduler.policy c.args.self.now.scheduler) c.requires.set.accepted c.args.rate c.args.until _ _ _ (c.held-held.ensures c.args.under.now);
  came = refl;
  dropped = refl;
  asked = omega arith;
  early = c.requires.paced.early;
  kept = record { policy = refl; origin = refl; names = refl; version = refl; room = refl };
  fewer = omega arith;
  kept_sink = sink-same _ _ _;
  going = c.requires.paced.going;
  live = c.requires.set.live;
}

pub returns-then-not-is_due-clause-ok : goal.returns-then-not-is_due-clause-ok
returns-then-not-is_due-clause-ok g c =
    let i = c.loop-sent.invariant in
    let due = sym c.is_due.ensures ∙ c.if-not-is_due.true in
    λ given. sends_waits g.C.Scheduler (recording_any g.W.Recorder) (recording-joined g.W.Recorder g.met.W.Recorder.joined any_bytes) (g.C.Scheduler.policy c.args.self.now.scheduler) c.requires.set.accepted c.args.rate c.args.until _ _ _ (c.held-held.ensures c.args.under.now) _ _ _ refl i.came (i.sends given) due

pub depart_next-requires-clause-stands : goal.depart_next-requires-clause-stands
depart_next-requires-clause-stands g c =
    let i = c.loop-sent.invariant in
    let one = c.requires.stands in
    rw i.kept.policy (sends_stand g.C.Scheduler (recording_any g.W.Recorder) (recording-joined g.W.Recorder g.met.W.Recorder.joined any_bytes) (g.C.Scheduler.policy c.args.self.now.scheduler) c.requires.set.accepted c.args.rate c.args.until _ _ _ (c.held-held.ensures c.args.under.now) _ _ _ refl i.came (i.sends one.has.number)
    (record { state = one.state; sound = one.sound; stood = one.stood; has = held_more _ _ one.has.below }))

pub depart_next-requires-clause-room : goal.depart_next-requires-clause-room
depart_next-requires-clause-room g c =
    let i = c.loop-sent.invariant in
    let one = c.requires.stands in
    let asked = sends_asked g.C.Scheduler (recording_any g.W.Recorder) (recording-joined g.W.Recorder g.met.W.Recorder.joined any_bytes) (g.C.Scheduler.policy c.args.self.now.scheduler) c.requires.set.accepted c.args.rate c.args.until _ _ _ (c.held-held.ensures c.args.under.now) _ _ _ refl i.came (i.sends one.has.number)
    (record { state = one.state; sound = one.sound; stood = one.stood; has = held_more _ _ one.has.below }) in
    record {
      departures = omega (arith, asked, i.asked, c.loop-sent-test.true, c.held-held.ensures c.args.under.now one.state one.sound one.stood, one.has.few, c.requires.paced.counts.departures_fit);
      events = omega (arith, i.came, i.asked, c.loop-sent-test.true, c.held-held.ensures c.args.under.now one.state one.sound one.stood, one.has.few, c.requires.paced.counts.few_came);
    }

pub take_time-requires-clause-early : goal.take_time-requires-clause-early
take_time-requires-clause-early g c =
    let i = c.loop-sent.invariant in
    let one = c.requires.stands in
    omega (arith, i.early, i.asked, c.loop-sent-test.true, c.held-held.ensures c.args.under.now one.state one.sound one.stood, one.has.few)

pub returns-in_err-departed-clause-err : goal.returns-in_err-departed-clause-err
returns-in_err-departed-clause-err g c =
    let p = err_from_is_err_and c.from_residual.result c.from_residual.ensures.1 in
    let i = c.loop-sent.invariant in
    let due : true ≡ _ = sym c.if-not-is_due.false ∙ c.is_due.ensures in
    let stop = rw (i.kept.policy, c.free.ensures) at c.in_err-departed.ensures.err in
    rw (p.1) (λ given. sends_stops g.C.Scheduler (recording_any g.W.Recorder) (recording-joined g.W.Recorder g.met.W.Recorder.joined any_bytes) (g.C.Scheduler.policy c.args.self.now.scheduler) c.requires.set.accepted c.args.rate c.args.until _ _ _ (c.held-held.ensures c.args.under.now) _ _ _ refl i.came (i.sends given)
    c.loop-sent-test.true (sym due) g.W.Recorder.over _ _ _ i.going (stop given))

pub loop-sent-preserved : goal.loop-sent-preserved
loop-sent-preserved g c =
    let i = c.loop-sent.invariant in
    let e = c.in_ok-departed.ensures in
    let due : true ≡ _ = sym c.if-not-is_due.false ∙ c.is_due.ensures in
    let made = rw (i.kept.policy, c.free.ensures) at e.ok in
    let value = rw i.kept.policy at e.value in
    record {
      sends = λ given. sends_goes g.C.Scheduler (recording_any g.W.Recorder) (recording-joined g.W.Recorder g.met.W.Recorder.joined any_bytes) (g.C.Scheduler.policy c.args.self.now.scheduler) c.requires.set.accepted c.args.rate c.args.until _ _ _ (c.held-held.ensures c.args.under.now) _ _ _ refl i.came (i.sends given)
          c.loop-sent-test.true (sym due) _ _ _ value c.take_time.ensures.time (made given);
      came = e.counts.came ∙ i.came;
      dropped = e.counts.dropped ∙ i.dropped;
      asked = omega (arith, e.counts.asked, i.asked);
      early = omega (arith, i.early, e.counts.asked, c.take_time.ensures.soon);
      kept = continues_then g.C.Scheduler _ _ _ i.kept e.keeps.kept;
      fewer = omega (arith, i.fewer, e.keeps.fewer);
      kept_sink = sink-then _ _ _ _ _ i.kept_sink e.keeps.kept_sink;
      going = sym c.over.ensures ∙ c.if-over.false;
      live = e.keeps.live;
    }

pub returns-then-over-clause-ok : goal.returns-then-over-clause-ok
returns-then-over-clause-ok g c =
    let i = c.loop-sent.invariant in
    let e = c.in_ok-departed.ensures in
    let due : true ≡ _ = sym c.if-not-is_due.false ∙ c.is_due.ensures in
    let made = rw (i.kept.policy, c.free.ensures) at e.ok in
    λ given. sends_first g.C.Scheduler (recording_any g.W.Recorder) (recording-joined g.W.Recorder g.met.W.Recorder.joined any_bytes) (g.C.Scheduler.policy c.args.self.now.scheduler) c.requires.set.accepted c.args.rate c.args.until _ _ _ (c.held-held.ensures c.args.under.now) _ _ _ refl i.came (i.sends given)
    c.loop-sent-test.true (sym due) g.W.Recorder.over _ i.going (made given) (sym c.over.ensures ∙ c.if-over.true)

pub returns-then-over-clause-paces : goal.returns-then-over-clause-paces
returns-then-over-clause-paces g c =
    let i = c.loop-sent.invariant in
    record { over = sym c.over.ensures ∙ c.if-over.true; early = omega (arith, i.early, c.in_ok-departed.ensures.counts.asked, c.take_time.ensures.soon) }

pub returns-then-over-clause-counts : goal.returns-then-over-clause-counts
returns-then-over-clause-counts g c =
    let i = c.loop-sent.invariant in
    let one = c.requires.stands in
    let e = c.in_ok-departed.ensures in
    record { came = e.counts.came ∙ i.came; dropped = e.counts.dropped ∙ i.dropped; asked = omega (arith, i.asked, c.in_ok-departed.ensures.counts.asked, c.loop-sent-test.true, c.held-held.ensures c.args.under.now one.state one.sound one.stood, one.has.few) }

pub returns-clause-ok : goal.returns-clause-ok
returns-clause-ok g c =
    let i = c.loop-sent.invariant in
    λ given. sends_over g.C.Scheduler (recording_any g.W.Recorder) (recording-joined g.W.Recorder g.met.W.Recorder.joined any_bytes) (g.C.Scheduler.policy c.args.self.now.scheduler) c.requires.set.accepted c.args.rate c.args.until _ _ _ (c.held-held.ensures c.args.under.now) _ _ _ refl i.came (i.sends given) (omega arith)

pub returns-clause-counts : goal.returns-clause-counts
returns-clause-counts g c =
    let i = c.loop-sent.invariant in
    let one = c.requires.stands in
    record { came = i.came; dropped = i.dropped; asked = omega (arith, i.asked, c.held-held.ensures c.args.under.now one.state one.sound one.stood, one.has.few) }

pub returns-then-not-is_due-clause-counts : goal.returns-then-not-is_due-clause-counts
returns-then-not-is_due-clause-counts g c =
    let i = c.loop-sent.invariant in
    let one = c.requires.stands in
    record { came = i.came; dropped = i.dropped; asked = omega (arith, i.asked, c.loop-sent-test.true, c.held-held.ensures c.args.under.now one.state one.sound one.stood, one.has.few) }
