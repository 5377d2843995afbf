use Rattle.sched_run.proofs.Prelude.{ℕ, arith, None, ◌≡◌, sym, subst, [], ◌+◌, ◌∷◌, err_from_is_err_and, on_err_weaker, on_ok_weaker, OnErr, OnOk, Depart, Event, sight_of, any_bytes, IsCapturedAs, recording_none, no_bytes, Makes, arrivals_in, stage_of, Stops, AreNext, packets_in}
use Rattle.sched_defs.specs.Events.{Arrive}
use Rattle.sched_run.proofs.LoadLaws.{event_next, drawn_can_arrive}
use Rattle.sched_run.proofs.RecordingLaws.{recording_gives, makes_so, stops_so}
use Rattle.sched_run.proofs.run.Run.play_drawn.Goals as goal

pub make_arrival-requires-clause-stands : goal.make_arrival-requires-clause-stands
make_arrival-requires-clause-stands g c =
    let one = c.requires.stands in
    record {
      state = one.state;
      sound = one.sound;
      stood = one.stood;
      has = drawn_can_arrive (g.C.Scheduler.policy c.args.self.now.scheduler) c.args.drawing.now c.in-Some.packet one.state c.in-Some.ensures.event c.requires.draws.classes (omega (arith, c.requires.draws.early)) one.has;
    }

pub returns-in-Some-clause-ok : goal.returns-in-Some-clause-ok
returns-in-Some-clause-ok g c =
    let policy = g.C.Scheduler.policy c.args.self.now.scheduler in
    let sight = sight_of g.T.Tap.kind_of g.T.Tap.state_of in
    let is = c.in-Some.ensures.event in
    subst (λ (e : Event). OnOk c.make_arrival.result ((given : ℕ) → c.args.drawing.now.number ≡ given + 1 → Makes g.C.Scheduler (recording_none g.W.Recorder) policy (e ∷ [])
    (stage_of c.args.self.now c.args.under.now (g.K.Sink.written c.args.sink.now) given (sight c.args.watch.now))
    (stage_of c.make_arrival.new.self c.make_arrival.new.under (g.K.Sink.written c.make_arrival.new.sink) (given + arrivals_in (e ∷ [])) (sight c.make_arrival.new.watch)))) is
    (on_ok_weaker c.make_arrival.result (λ all given number. makes_so g.C.Scheduler (recording_gives g.W.Recorder (IsCapturedAs c.in-Some.packet []) no_bytes (λ bytes none. none c.in-Some.packet.number)) policy (Arrive c.in-Some.packet ∷ []) _ _ (all given (subst (λ (e : Event). AreNext policy given (packets_in (e ∷ []))) (sym is)
    (event_next policy c.args.drawing.now given c.requires.draws.classes (omega (arith, c.requires.draws.early)) number)))) c.make_arrival.ensures.ok)

pub returns-in-Some-clause-err : goal.returns-in-Some-clause-err
returns-in-Some-clause-err g c =
    let policy = g.C.Scheduler.policy c.args.self.now.scheduler in
    let sight = sight_of g.T.Tap.kind_of g.T.Tap.state_of in
    let is = c.in-Some.ensures.event in
    subst (λ (e : Event). OnErr c.make_arrival.result ((given : ℕ) → c.args.drawing.now.number ≡ given + 1 → Stops g.C.Scheduler (recording_none g.W.Recorder) policy (e ∷ [])
    (stage_of c.args.self.now c.args.under.now (g.K.Sink.written c.args.sink.now) given (sight c.args.watch.now))
    c.make_arrival.new.self.scheduler c.make_arrival.new.under (g.K.Sink.written c.make_arrival.new.sink))) is
    (on_err_weaker c.make_arrival.result (λ all given number. stops_so g.C.Scheduler (recording_gives g.W.Recorder (IsCapturedAs c.in-Some.packet []) no_bytes (λ bytes none. none c.in-Some.packet.number)) policy (Arrive c.in-Some.packet ∷ []) _ _ _ _ (all given (subst (λ (e : Event). AreNext policy given (packets_in (e ∷ []))) (sym is)
    (event_next policy c.args.drawing.now given c.requires.draws.classes (omega (arith, c.requires.draws.early)) number)))) c.make_arrival.ensures.err)

pub returns-in_err-depart_next-in-None-clause-err : goal.returns-in_err-depart_next-in-None-clause-err
returns-in_err-depart_next-in-None-clause-err g c =
    let p = err_from_is_err_and c.from_residual.result c.from_residual.ensures.1 in
    let policy = g.C.Scheduler.policy c.args.self.now.scheduler in
    let sight = sight_of g.T.Tap.kind_of g.T.Tap.state_of in
    rw (p.1) (λ given number. subst (λ (e : Event). Stops g.C.Scheduler (recording_none g.W.Recorder) policy (e ∷ [])
    (stage_of c.args.self.now c.args.under.now (g.K.Sink.written c.args.sink.now) given (sight c.args.watch.now))
    c.depart_next.new.self.scheduler c.depart_next.new.under (g.K.Sink.written c.depart_next.new.sink)) c.in-None.ensures.event
    (stops_so g.C.Scheduler (recording_gives g.W.Recorder any_bytes no_bytes (λ bytes none. tt)) policy (Depart None ∷ []) _ _ _ _ (c.in_err-depart_next-in-None.ensures.err given)))

pub returns-in_ok-depart_next-in-None-clause-ok : goal.returns-in_ok-depart_next-in-None-clause-ok
returns-in_ok-depart_next-in-None-clause-ok g c =
    let policy = g.C.Scheduler.policy c.args.self.now.scheduler in
    let sight = sight_of g.T.Tap.kind_of g.T.Tap.state_of in
    λ given number.
    let same : given ≡ given + 0 = omega arith in
    subst (λ (e : Event). Makes g.C.Scheduler (recording_none g.W.Recorder) policy (e ∷ [])
    (stage_of c.args.self.now c.args.under.now (g.K.Sink.written c.args.sink.now) given (sight c.args.watch.now))
    (stage_of c.depart_next.new.self c.depart_next.new.under (g.K.Sink.written c.depart_next.new.sink) (given + arrivals_in (e ∷ [])) (sight c.depart_next.new.watch))) c.in-None.ensures.event
    (subst (λ (n : ℕ). Makes g.C.Scheduler (recording_none g.W.Recorder) policy (Depart None ∷ [])
    (stage_of c.args.self.now c.args.under.now (g.K.Sink.written c.args.sink.now) given (sight c.args.watch.now))
    (stage_of c.depart_next.new.self c.depart_next.new.under (g.K.Sink.written c.depart_next.new.sink) n (sight c.depart_next.new.watch))) same
    (makes_so g.C.Scheduler (recording_gives g.W.Recorder any_bytes no_bytes (λ bytes none. tt)) policy (Depart None ∷ []) _ _ (c.in_ok-depart_next-in-None.ensures.ok given)))
