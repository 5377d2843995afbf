use Rattle.sched_run.proofs.Prelude.{arith, None, refl, ◌+◌, Some, map, err_from_is_err_and, sink-then, sink-same, recording}
use Rattle.sched_run.proofs.FrameLaws.{continues_then, keeps_then}
use Rattle.sched_defs.specs.Events.{Arrive}
use Rattle.sched_run.proofs.EventCounts.{arrivals_in-arrivals, departures_in-arrivals}
use Rattle.sched_run.proofs.PacketsInTurn.{fewer_left, one_after, room_after, arrives_none, arrives_more, arrives_end, arrivals_stop}
use Rattle.sched_run.proofs.StepLaws.{rest_done, rest_stops}
use Rattle.sched_run.proofs.RecordingLaws.{recording-joined, recording_gives, arrives_so, arrivals_stop_so}
use Rattle.sched_run.proofs.run.Run.arrive_rest.Goals as goal

pub loop-ending-init : goal.loop-ending-init
loop-ending-init g c = record {
  arrives = (0, arrives_none g.C.Scheduler (recording g.W.Recorder (g.P.Packets.captures c.args.packets.now c.args.source.now)) (recording-joined g.W.Recorder g.met.W.Recorder.joined (g.P.Packets.captures c.args.packets.now c.args.source.now)) (g.C.Scheduler.policy c.args.self.now.scheduler) _ _ _ _ _ _ _ _);
  further = record { ready = c.requires.feeds.ready; known = λ bytes are. are; given = refl; few = c.requires.counts.few };
  kept = record { policy = refl; origin = refl; names = refl; version = refl; room = refl };
  fewer = omega arith;
  kept_sink = sink-same _ _ _;
  kept_packets = record { policy = refl; later = omega arith };
  live = c.requires.set.live;
}

pub arrive_next-requires-clause-stands : goal.arrive_next-requires-clause-stands
arrive_next-requires-clause-stands g c =
    let i = c.loop-ending.invariant in
    rw i.kept.policy (one_after g.C.Scheduler (recording g.W.Recorder (g.P.Packets.captures c.args.packets.now c.args.source.now)) (recording-joined g.W.Recorder g.met.W.Recorder.joined (g.P.Packets.captures c.args.packets.now c.args.source.now)) (g.C.Scheduler.policy c.args.self.now.scheduler) c.requires.set.accepted (map Arrive i.arrives.1.packets) _ _ i.further.given i.arrives.1.made c.requires.stands)

pub arrive_next-requires-clause-counts : goal.arrive_next-requires-clause-counts
arrive_next-requires-clause-counts g c =
    let i = c.loop-ending.invariant in
    room_after g.C.Scheduler (recording g.W.Recorder (g.P.Packets.captures c.args.packets.now c.args.source.now)) (recording-joined g.W.Recorder g.met.W.Recorder.joined (g.P.Packets.captures c.args.packets.now c.args.source.now)) (g.C.Scheduler.policy c.args.self.now.scheduler) c.requires.set.accepted (map Arrive i.arrives.1.packets) _ _ i.further.given i.further.few
    (omega (arith, c.requires.counts.few_asked, departures_in-arrivals i.arrives.1.packets)) i.arrives.1.made c.requires.stands c.requires.counts

pub returns-in_err-ending-clause-err : goal.returns-in_err-ending-clause-err
returns-in_err-ending-clause-err g c =
    let p = err_from_is_err_and c.from_residual.result c.from_residual.ensures.1 in
    let S = g.C.Scheduler in
    let policy = S.policy c.args.self.now.scheduler in
    let i = c.loop-ending.invariant in
    let n = i.arrives.0 in
    let stop = arrivals_stop_so g.C.Scheduler (recording_gives g.W.Recorder (g.P.Packets.captures c.loop-ending.packets c.loop-ending.source) (g.P.Packets.captures c.args.packets.now c.args.source.now) i.further.known) (g.C.Scheduler.policy c.args.self.now.scheduler) 1 _ _ _ _ _ (rw i.kept.policy at c.in_err-ending.ensures.err) in
    rw (p.1) (rest_stops S (recording g.W.Recorder (g.P.Packets.captures c.args.packets.now c.args.source.now)) policy (n + 1) _ _ _ _ _ (arrivals_stop S (recording g.W.Recorder (g.P.Packets.captures c.args.packets.now c.args.source.now)) (recording-joined g.W.Recorder g.met.W.Recorder.joined (g.P.Packets.captures c.args.packets.now c.args.source.now)) policy c.requires.set.accepted n (n + 1) _ _ _ _ _ _ _ (omega arith) i.further.given i.arrives.1 stop))

pub returns-in-Some-clause-ok : goal.returns-in-Some-clause-ok
returns-in-Some-clause-ok g c =
    let S = g.C.Scheduler in
    let policy = S.policy c.args.self.now.scheduler in
    let i = c.loop-ending.invariant in
    let n = i.arrives.0 in
    let one = arrives_so g.C.Scheduler (recording_gives g.W.Recorder (g.P.Packets.captures c.loop-ending.packets c.loop-ending.source) (g.P.Packets.captures c.args.packets.now c.args.source.now) i.further.known) (g.C.Scheduler.policy c.args.self.now.scheduler) 1 (Some c.in-Some.ending) _ _ _ _ (rw (i.kept.policy, c.in-Some.is) at c.in_ok-ending.ensures.ok) in
    rw c.at_fault.ensures (rest_done S (recording g.W.Recorder (g.P.Packets.captures c.args.packets.now c.args.source.now)) policy (n + 1) c.in-Some.ending _ _ _ _ (arrives_end S (recording g.W.Recorder (g.P.Packets.captures c.args.packets.now c.args.source.now)) (recording-joined g.W.Recorder g.met.W.Recorder.joined (g.P.Packets.captures c.args.packets.now c.args.source.now)) policy c.requires.set.accepted n (n + 1) c.in-Some.ending _ _ _ _ _ _ (omega arith) i.further.given i.arrives.1 one))

pub loop-ending-preserved : goal.loop-ending-preserved
loop-ending-preserved g c =
    let S = g.C.Scheduler in
    let policy = S.policy c.args.self.now.scheduler in
    let i = c.loop-ending.invariant in
    let e = c.in_ok-ending.ensures in
    let one = arrives_so g.C.Scheduler (recording_gives g.W.Recorder (g.P.Packets.captures c.loop-ending.packets c.loop-ending.source) (g.P.Packets.captures c.args.packets.now c.args.source.now) i.further.known) (g.C.Scheduler.policy c.args.self.now.scheduler) 1 None _ _ _ _ (rw (i.kept.policy, c.in_default.is) at e.ok) in
    let further = rw c.in_default.is at e.further in
    record {
      arrives = (i.arrives.0 + 1, arrives_more S (recording g.W.Recorder (g.P.Packets.captures c.args.packets.now c.args.source.now)) (recording-joined g.W.Recorder g.met.W.Recorder.joined (g.P.Packets.captures c.args.packets.now c.args.source.now)) policy c.requires.set.accepted i.arrives.0 _ _ _ _ _ _ i.further.given i.arrives.1 one);
      further = record { ready = further.ready; known = λ bytes are. further.known bytes (i.further.known bytes are); given = omega (arith, i.further.given, further.given); few = further.few };
      kept = continues_then S _ _ _ i.kept e.keeps.kept;
      fewer = omega (arith, i.fewer, e.keeps.fewer);
      kept_sink = sink-then _ _ _ _ _ i.kept_sink e.keeps.kept_sink;
      kept_packets = keeps_then g.P.Packets _ _ _ _ _ _ i.kept_packets e.keeps.kept_packets;
      live = e.keeps.live;
    }

pub loop-ending-smaller : goal.loop-ending-smaller
loop-ending-smaller g c =
    let e = c.in_ok-ending.ensures in
    let one = rw c.in_default.is at e.ok in
    fewer_left (g.P.Packets.given c.arrive_next.new.packets) (g.P.Packets.given c.loop-ending.packets)
    (omega (arith, (rw c.in_default.is at e.further).given, one.made.came, one.count, arrivals_in-arrivals one.packets)) ((rw c.in_default.is at e.further).few)
