use Rattle.sched_run.proofs.Prelude.{◌≡◌, false, ◌-◌, KeepsSink, sight_of, AreNoMore, link_agenda, Continues, KeepsPackets, IsFurther, recording, IsEarly, stage_of}
use Rattle.sched_run.proofs.AgendaLaws.{HasRun}
use Rattle.sched_run.proofs.run.Run.play_link.Given as goal

abbrev pub invariant-loop-packets : goal.invariant-loop-packets
invariant-loop-packets g l =
    let S = g.C.Scheduler in
    let P = g.P.Packets in
    let written = g.K.Sink.written in
    let sight = sight_of g.T.Tap.kind_of g.T.Tap.state_of in
    record {
      run : HasRun S (recording g.W.Recorder (P.captures l.fn.packets l.fn.source)) (S.policy l.fn.self.scheduler) (link_agenda (S.policy l.fn.self.scheduler) l.rate 0) (link_agenda (S.policy l.fn.self.scheduler) l.rate l.link) 0 0
          (P.left l.fn.packets l.fn.source) (P.left l.packets l.source)
          (stage_of l.fn.self l.fn.under (written l.fn.sink) (P.given l.fn.packets) (sight l.fn.watch))
          (stage_of l.self l.under (written l.sink) (P.given l.packets) (sight l.watch));
      early : IsEarly l.link l.self.tally;
      further : IsFurther P l.fn.packets l.packets l.fn.source l.source l.fn.self.tally l.self.tally;
      kept : Continues S l.fn.self l.self;
      fewer : AreNoMore (sight l.fn.watch) (sight l.watch);
      kept_sink : KeepsSink written g.K.Sink.faults l.fn.sink l.sink;
      kept_packets : KeepsPackets P l.fn.packets l.packets l.fn.source l.source;
      going : g.W.Recorder.over l.self.recorder ≡ false;
      live : g.W.Recorder.live l.self.recorder;
    }

abbrev pub decreases-loop-packets : goal.decreases-loop-packets
decreases-loop-packets g l = 4294967296 - g.P.Packets.given l.packets
