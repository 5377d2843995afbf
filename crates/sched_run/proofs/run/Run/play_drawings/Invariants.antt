use Rattle.sched_run.proofs.Prelude.{◌≡◌, ◌+◌, ◌≤◌, ◌*◌, KeepsSink, sight_of, AreNoMore, Continues, recording_none, first_drawing, load_events, Makes, arrivals_in, stage_of}
use Rattle.sched_run.proofs.LoadLaws.{load_after}
use Rattle.sched_run.proofs.run.Run.play_drawings.Given as goal

abbrev pub invariant-loop-drawn : goal.invariant-loop-drawn
invariant-loop-drawn g l =
    let S = g.C.Scheduler in
    let written = g.K.Sink.written in
    let sight = sight_of g.T.Tap.kind_of g.T.Tap.state_of in
    record {
      made : Makes S (recording_none g.W.Recorder) (S.policy l.fn.self.scheduler) (load_events l._drawn (first_drawing l.seed))
          (stage_of l.fn.self l.fn.under (written l.fn.sink) 0 (sight l.fn.watch))
          (stage_of l.self l.under (written l.sink) (arrivals_in (load_events l._drawn (first_drawing l.seed))) (sight l.watch));
      drawing : l.drawing ≡ load_after l._drawn (first_drawing l.seed);
      number : l.drawing.number ≡ arrivals_in (load_events l._drawn (first_drawing l.seed)) + 1;
      moment : l.drawing.moment ≤ 2000 * l._drawn;
      kept : Continues S l.fn.self l.self;
      fewer : AreNoMore (sight l.fn.watch) (sight l.watch);
      kept_sink : KeepsSink written g.K.Sink.faults l.fn.sink l.sink;
      live : g.W.Recorder.live l.self.recorder;
    }
