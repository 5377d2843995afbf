use Rattle.sched_run.proofs.Prelude.{ℕ, None, ◌≡◌, ◌+◌, replicate, KeepsSink, Depart, sight_of, AreNoMore, Continues, recording_any, Makes, stage_of}
use Rattle.sched_run.proofs.run.Run.depart_some.Given as goal

abbrev pub invariant-loop-made : goal.invariant-loop-made
invariant-loop-made g l =
    let S = g.C.Scheduler in
    let written = g.K.Sink.written in
    let sight = sight_of g.T.Tap.kind_of g.T.Tap.state_of in
    record {
      makes : (given : ℕ) → Makes S (recording_any g.W.Recorder) (S.policy l.fn.self.scheduler) (replicate l._made (Depart None))
          (stage_of l.fn.self l.fn.under (written l.fn.sink) given (sight l.fn.watch)) (stage_of l.self l.under (written l.sink) given (sight l.watch));
      came : l.self.tally.came ≡ l.fn.self.tally.came;
      asked : l.self.tally.asked ≡ l.fn.self.tally.asked + l._made;
      kept : Continues S l.fn.self l.self;
      fewer : AreNoMore (sight l.fn.watch) (sight l.watch);
      kept_sink : KeepsSink written g.K.Sink.faults l.fn.sink l.sink;
      live : g.W.Recorder.live l.self.recorder;
    }
