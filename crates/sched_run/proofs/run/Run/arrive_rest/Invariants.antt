use Rattle.sched_run.proofs.Prelude.{ℕ, None, ◌-◌, KeepsSink, sight_of, AreNoMore, Continues, KeepsPackets, IsFurther, recording, stage_of, Arrives}
use Rattle.sched_run.proofs.run.Run.arrive_rest.Given as goal

abbrev pub invariant-loop-ending : goal.invariant-loop-ending
invariant-loop-ending g l =
    let S = g.C.Scheduler in
    let P = g.P.Packets in
    let written = g.K.Sink.written in
    let sight = sight_of g.T.Tap.kind_of g.T.Tap.state_of in
    record {
      arrives : (n : ℕ) × Arrives S (recording g.W.Recorder (P.captures l.fn.packets l.fn.source)) (S.policy l.fn.self.scheduler) n None (P.left l.fn.packets l.fn.source) (P.left l.packets l.source)
          (stage_of l.fn.self l.fn.under (written l.fn.sink) (P.given l.fn.packets) (sight l.fn.watch))
          (stage_of l.self l.under (written l.sink) (P.given l.packets) (sight l.watch));
      further : IsFurther P l.fn.packets l.packets l.fn.source l.source l.fn.self.tally l.self.tally;
      kept : Continues S l.fn.self l.self;
      fewer : AreNoMore (sight l.fn.watch) (sight l.watch);
      kept_sink : KeepsSink written g.K.Sink.faults l.fn.sink l.sink;
      kept_packets : KeepsPackets P l.fn.packets l.packets l.fn.source l.source;
      live : g.W.Recorder.live l.self.recorder;
    }

abbrev pub decreases-loop-ending : goal.decreases-loop-ending
decreases-loop-ending g l = 4294967296 - g.P.Packets.given l.packets
