use Rattle.sched_run.proofs.Prelude.{arith, None, refl, sym, Some, map, err_from_is_err_and, sink-then, sink-same, recording}
use Rattle.sched_run.proofs.FrameLaws.{continues_then, keeps_then}
use Rattle.sched_defs.specs.Events.{Arrive}
use Rattle.sched_run.proofs.EventCounts.{departures_in-arrivals}
use Rattle.sched_run.proofs.PacketsInTurn.{some_is, none_is, one_after, room_after, arrives_none, arrives_more, arrives_end, arrivals_stop}
use Rattle.sched_run.proofs.RecordingLaws.{recording-joined, recording_gives, arrives_so, arrivals_stop_so}
use Rattle.sched_run.proofs.run.Run.arrive_some.Goals as goal

pub loop-sent-init : goal.loop-sent-init
loop-sent-init g c = record {
  arrives = arrives_none g.C.Scheduler (recording g.W.Recorder (g.P.Packets.captures c.args.packets.now c.args.source.now)) (recording-joined g.W.Recorder g.met.W.Recorder.joined (g.P.Packets.captures c.args.packets.now c.args.source.now)) (g.C.Scheduler.policy c.args.self.now.scheduler) _ _ _ _ _ _ _ _;
  further = record { ready = c.requires.feeds.ready; known = λ bytes are. are; given = refl; few = c.requires.counts.few };
  kept = record { policy = refl; origin = refl; names = refl; version = refl; room = refl };
  fewer = omega arith;
  kept_sink = sink-same _ _ _;
  kept_packets = record { policy = refl; later = omega arith };
  live = c.requires.set.live;
}

pub arrive_next-requires-clause-stands : goal.arrive_next-requires-clause-stands
arrive_next-requires-clause-stands g c =
    let i = c.loop-sent.invariant in
    rw i.kept.policy (one_after g.C.Scheduler (recording g.W.Recorder (g.P.Packets.captures c.args.packets.now c.args.source.now)) (recording-joined g.W.Recorder g.met.W.Recorder.joined (g.P.Packets.captures c.args.packets.now c.args.source.now)) (g.C.Scheduler.policy c.args.self.now.scheduler) c.requires.set.accepted (map Arrive i.arrives.packets) _ _ i.further.given i.arrives.made c.requires.stands)

pub arrive_next-requires-clause-counts : goal.arrive_next-requires-clause-counts
arrive_next-requires-clause-counts g c =
    let i = c.loop-sent.invariant in
    room_after g.C.Scheduler (recording g.W.Recorder (g.P.Packets.captures c.args.packets.now c.args.source.now)) (recording-joined g.W.Recorder g.met.W.Recorder.joined (g.P.Packets.captures c.args.packets.now c.args.source.now)) (g.C.Scheduler.policy c.args.self.now.scheduler) c.requires.set.accepted (map Arrive i.arrives.packets) _ _ i.further.given i.further.few
    (omega (arith, c.requires.counts.few_asked, departures_in-arrivals i.arrives.packets)) i.arrives.made c.requires.stands c.requires.counts

pub returns-in_err-ending-clause-err : goal.returns-in_err-ending-clause-err
returns-in_err-ending-clause-err g c =
    let p = err_from_is_err_and c.from_residual.result c.from_residual.ensures.1 in
    let i = c.loop-sent.invariant in
    let stop = arrivals_stop_so g.C.Scheduler (recording_gives g.W.Recorder (g.P.Packets.captures c.loop-sent.packets c.loop-sent.source) (g.P.Packets.captures c.args.packets.now c.args.source.now) i.further.known) (g.C.Scheduler.policy c.args.self.now.scheduler) 1 _ _ _ _ _ (rw i.kept.policy at c.in_err-ending.ensures.err) in
    rw (p.1) (arrivals_stop g.C.Scheduler (recording g.W.Recorder (g.P.Packets.captures c.args.packets.now c.args.source.now)) (recording-joined g.W.Recorder g.met.W.Recorder.joined (g.P.Packets.captures c.args.packets.now c.args.source.now)) (g.C.Scheduler.policy c.args.self.now.scheduler) c.requires.set.accepted c.loop-sent._sent c.args.count _ _ _ _ _ _ _ c.loop-sent-test.true i.further.given i.arrives stop)

pub returns-then-is_some-clause-ok : goal.returns-then-is_some-clause-ok
returns-then-is_some-clause-ok g c =
    let i = c.loop-sent.invariant in
    let some = some_is c.in_ok-ending.ending (sym c.if-is_some.ensures) in
    let one = arrives_so g.C.Scheduler (recording_gives g.W.Recorder (g.P.Packets.captures c.loop-sent.packets c.loop-sent.source) (g.P.Packets.captures c.args.packets.now c.args.source.now) i.further.known) (g.C.Scheduler.policy c.args.self.now.scheduler) 1 (Some some.0) _ _ _ _ (rw (i.kept.policy, some.1) at c.in_ok-ending.ensures.ok) in
    rw (some.1) (arrives_end g.C.Scheduler (recording g.W.Recorder (g.P.Packets.captures c.args.packets.now c.args.source.now)) (recording-joined g.W.Recorder g.met.W.Recorder.joined (g.P.Packets.captures c.args.packets.now c.args.source.now)) (g.C.Scheduler.policy c.args.self.now.scheduler) c.requires.set.accepted c.loop-sent._sent c.args.count some.0 _ _ _ _ _ _ c.loop-sent-test.true i.further.given i.arrives one)

pub loop-sent-preserved : goal.loop-sent-preserved
loop-sent-preserved g c =
    let i = c.loop-sent.invariant in
    let none = none_is c.in_ok-ending.ending (sym c.if-is_some.ensures) in
    let e = c.in_ok-ending.ensures in
    let one = arrives_so g.C.Scheduler (recording_gives g.W.Recorder (g.P.Packets.captures c.loop-sent.packets c.loop-sent.source) (g.P.Packets.captures c.args.packets.now c.args.source.now) i.further.known) (g.C.Scheduler.policy c.args.self.now.scheduler) 1 None _ _ _ _ (rw (i.kept.policy, none) at e.ok) in
    let further = rw none at e.further in
    let S = g.C.Scheduler in
    record {
      arrives = arrives_more g.C.Scheduler (recording g.W.Recorder (g.P.Packets.captures c.args.packets.now c.args.source.now)) (recording-joined g.W.Recorder g.met.W.Recorder.joined (g.P.Packets.captures c.args.packets.now c.args.source.now)) (g.C.Scheduler.policy c.args.self.now.scheduler) c.requires.set.accepted c.loop-sent._sent _ _ _ _ _ _ i.further.given i.arrives one;
      further = record { ready = further.ready; known = λ bytes are. further.known bytes (i.further.known bytes are); given = omega (arith, i.further.given, further.given); few = further.few };
      kept = continues_then S _ _ _ i.kept e.keeps.kept;
      fewer = omega (arith, i.fewer, e.keeps.fewer);
      kept_sink = sink-then _ _ _ _ _ i.kept_sink e.keeps.kept_sink;
      kept_packets = keeps_then g.P.Packets _ _ _ _ _ _ i.kept_packets e.keeps.kept_packets;
      live = e.keeps.live;
    }
