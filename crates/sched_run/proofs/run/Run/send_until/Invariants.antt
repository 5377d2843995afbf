use Rattle.sched_run.proofs.Prelude.{ℕ, ◌≡◌, ◌+◌, false, KeepsSink, sight_of, AreNoMore, Continues, recording_any, IsEarly, stage_of}
use Rattle.sched_run.proofs.LinkLaws.{SendsPart}
use Rattle.sched_run.proofs.run.Run.send_until.Given as goal

abbrev pub invariant-loop-sent : goal.invariant-loop-sent
invariant-loop-sent g l =
    let S = g.C.Scheduler in
    let written = g.K.Sink.written in
    let sight = sight_of g.T.Tap.kind_of g.T.Tap.state_of in
    record {
      sends : (given : ℕ) → SendsPart S (recording_any g.W.Recorder) (S.policy l.fn.self.scheduler) l.rate l.until l.held l._sent l.fn.link l.link
          (stage_of l.fn.self l.fn.under (written l.fn.sink) given (sight l.fn.watch)) (stage_of l.self l.under (written l.sink) given (sight l.watch));
      came : l.self.tally.came ≡ l.fn.self.tally.came;
      dropped : l.self.tally.dropped ≡ l.fn.self.tally.dropped;
      asked : l.self.tally.asked ≡ l.fn.self.tally.asked + l._sent;
      early : IsEarly l.link l.self.tally;
      kept : Continues S l.fn.self l.self;
      fewer : AreNoMore (sight l.fn.watch) (sight l.watch);
      kept_sink : KeepsSink written g.K.Sink.faults l.fn.sink l.sink;
      going : g.W.Recorder.over l.self.recorder ≡ false;
      live : g.W.Recorder.live l.self.recorder;
    }
