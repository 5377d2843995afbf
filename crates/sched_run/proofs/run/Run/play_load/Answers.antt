use Rattle.sched_run.proofs.Prelude.{ℕ, arith, None, ◌∙◌, ◌++◌, replicate, err_from_is_err_and, Depart, any_bytes, recording_none, no_bytes, first_drawing, load_events}
use Rattle.sched_run.proofs.LoadLaws.{load_room, load_held, load_stops_drawing, load_stops_draining, load_done}
use Rattle.sched_run.proofs.MadeEvents.{makes_both}
use Rattle.sched_run.proofs.PacketsInTurn.{one_after}
use Rattle.sched_run.proofs.TotalLaws.{has_totals}
use Rattle.sched_run.proofs.RecordingLaws.{recording-joined, recording_gives, makes_so, stops_so}
use Rattle.sched_run.proofs.run.Run.play_load.Goals as goal

pub returns-in_err-play_drawings-clause-err : goal.returns-in_err-play_drawings-clause-err
returns-in_err-play_drawings-clause-err g c =
    let p = err_from_is_err_and c.from_residual.result c.from_residual.ensures.1 in
    let S = g.C.Scheduler in
    rw (p.1) (load_stops_drawing S (recording_none g.W.Recorder) (recording-joined g.W.Recorder g.met.W.Recorder.joined no_bytes) (S.policy c.args.self.now.scheduler) c.requires.set.accepted c.args.seed c.args.count _ c.new-self.ensures _ _ _ c.in_err-play_drawings.ensures.err)

pub depart_some-requires-clause-stands : goal.depart_some-requires-clause-stands
depart_some-requires-clause-stands g c =
    let S = g.C.Scheduler in
    let e = c.in_ok-play_drawings.ensures in
    let one = c.requires.stands in
    let at = one_after S (recording_none g.W.Recorder) (recording-joined g.W.Recorder g.met.W.Recorder.joined no_bytes) (S.policy c.args.self.now.scheduler) c.requires.set.accepted (load_events c.args.count (first_drawing c.args.seed)) _ _ (omega (arith, e.ok.came)) e.ok
    (record { state = one.state; sound = one.sound; stood = one.stood; has = one.has.held }) in
    rw e.keeps.kept.policy (record { state = at.state; sound = at.sound; stood = at.stood; has = tt })

pub depart_some-requires-clause-room : goal.depart_some-requires-clause-room
depart_some-requires-clause-room g c =
    let S = g.C.Scheduler in
    let policy = S.policy c.args.self.now.scheduler in
    let e = c.in_ok-play_drawings.ensures in
    let waiting = rw e.keeps.kept.policy at (c.held-waiting.ensures c.play_drawings.new.under) in
    let room = load_room S (recording_none g.W.Recorder) (recording-joined g.W.Recorder g.met.W.Recorder.joined no_bytes) policy c.requires.set.accepted c.args.count (first_drawing c.args.seed) _ _ c.requires.short c.new-self.ensures c.requires.room.pushes c.requires.room.departures e.ok c.requires.stands in
    let held = load_held S (recording_none g.W.Recorder) (recording-joined g.W.Recorder g.met.W.Recorder.joined no_bytes) policy c.requires.set.accepted c.args.count (first_drawing c.args.seed) _ _ c.held-waiting.result c.requires.short e.ok c.requires.stands waiting in
    record { departures = omega (arith, room.departures_fit, held); events = omega (arith, room.events, held) }

pub returns-in_err-depart_some-clause-err : goal.returns-in_err-depart_some-clause-err
returns-in_err-depart_some-clause-err g c =
    let p = err_from_is_err_and c.from_residual-in_err-depart_some.result c.from_residual-in_err-depart_some.ensures.1 in
    let S = g.C.Scheduler in
    let e = c.in_ok-play_drawings.ensures in
    let waiting = rw e.keeps.kept.policy at (c.held-waiting.ensures c.play_drawings.new.under) in
    let stop = λ (given : ℕ). stops_so S (recording_gives g.W.Recorder any_bytes no_bytes (λ bytes none. tt)) (S.policy c.args.self.now.scheduler) (replicate c.held-waiting.result (Depart None)) _ _ _ _ ((rw e.keeps.kept.policy at c.in_err-depart_some.ensures.err) given) in
    rw (p.1) (load_stops_draining S (recording_none g.W.Recorder) (recording-joined g.W.Recorder g.met.W.Recorder.joined no_bytes) (S.policy c.args.self.now.scheduler) c.requires.set.accepted c.args.seed c.args.count _ c.new-self.ensures _ c.held-waiting.result (omega arith) e.ok waiting _ _ _ (stop _))

pub totals-requires : goal.totals-requires
totals-requires g c =
    let S = g.C.Scheduler in
    let policy = S.policy c.args.self.now.scheduler in
    let e = c.in_ok-play_drawings.ensures in
    let d = c.in_ok-depart_some.ensures in
    let more = λ (given : ℕ). makes_so S (recording_gives g.W.Recorder any_bytes no_bytes (λ bytes none. tt)) (S.policy c.args.self.now.scheduler) (replicate c.held-waiting.result (Depart None)) _ _ ((rw e.keeps.kept.policy at d.ok) given) in
    let held = rw (d.keeps.kept.policy ∙ e.keeps.kept.policy) at (c.held-held.ensures c.depart_some.new.under) in
    let room = load_room S (recording_none g.W.Recorder) (recording-joined g.W.Recorder g.met.W.Recorder.joined no_bytes) policy c.requires.set.accepted c.args.count (first_drawing c.args.seed) _ _ c.requires.short c.new-self.ensures c.requires.room.pushes c.requires.room.departures e.ok c.requires.stands in
    let made = makes_both S (recording_none g.W.Recorder) (recording-joined g.W.Recorder g.met.W.Recorder.joined no_bytes) policy c.requires.set.accepted (load_events c.args.count (first_drawing c.args.seed)) (replicate c.held-waiting.result (Depart None)) _ _ _ (omega arith) e.ok (more _) in
    has_totals S (recording_none g.W.Recorder) (recording-joined g.W.Recorder g.met.W.Recorder.joined no_bytes) policy c.requires.set.accepted (load_events c.args.count (first_drawing c.args.seed) ++ replicate c.held-waiting.result (Depart None)) _ _ c.held-first.result c.held-held.result c.requires.stands c.new-self.ensures (omega (arith, d.came, room.events)) made (c.held-first.ensures c.args.under.now) held

pub returns-clause-ok : goal.returns-clause-ok
returns-clause-ok g c =
    let S = g.C.Scheduler in
    let e = c.in_ok-play_drawings.ensures in
    let d = c.in_ok-depart_some.ensures in
    let waiting = rw e.keeps.kept.policy at (c.held-waiting.ensures c.play_drawings.new.under) in
    let more = λ (given : ℕ). makes_so S (recording_gives g.W.Recorder any_bytes no_bytes (λ bytes none. tt)) (S.policy c.args.self.now.scheduler) (replicate c.held-waiting.result (Depart None)) _ _ ((rw e.keeps.kept.policy at d.ok) given) in
    let held = rw (d.keeps.kept.policy ∙ e.keeps.kept.policy) at (c.held-held.ensures c.depart_some.new.under) in
    load_done S (recording_none g.W.Recorder) (recording-joined g.W.Recorder g.met.W.Recorder.joined no_bytes) (S.policy c.args.self.now.scheduler) c.requires.set.accepted c.args.seed c.args.count _ c.new-self.ensures _ c.held-waiting.result (omega arith) e.ok waiting _ c.held-first.result c.held-held.result _ c.totals.result (more _) (c.held-first.ensures c.args.under.now) held
    c.totals.ensures (d.keeps.kept.version ∙ e.keeps.kept.version ∙ c.requires.set.version)
