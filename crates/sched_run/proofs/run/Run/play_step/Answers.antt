use Rattle.sched_run.proofs.Prelude.{None, replicate, err_from_is_err_and, Depart, recording, any_bytes}
use Rattle.sched_run.proofs.StepLaws.{if_ok_turned, on_err_turned, some_done, some_stops, departures_done, departures_stop, drain_done, drain_stops}
use Rattle.sched_run.proofs.RecordingLaws.{recording_gives, makes_so, stops_so}
use Rattle.sched_run.proofs.run.Run.play_step.Goals as goal

pub returns-in_err-depart_some-in-Depart-clause-err : goal.returns-in_err-depart_some-in-Depart-clause-err
returns-in_err-depart_some-in-Depart-clause-err g c =
    let p = err_from_is_err_and c.from_residual.result c.from_residual.ensures.1 in
    rw (p.1, c.in-Depart.is) (departures_stop g.C.Scheduler (recording g.W.Recorder (g.P.Packets.captures c.args.packets.now c.args.source.now)) (g.C.Scheduler.policy c.args.self.now.scheduler) c.in-Depart.count _ _ _ _ _ (stops_so g.C.Scheduler (recording_gives g.W.Recorder any_bytes (g.P.Packets.captures c.args.packets.now c.args.source.now) (λ bytes are. tt)) (g.C.Scheduler.policy c.args.self.now.scheduler) (replicate c.in-Depart.count (Depart None)) _ _ _ _ (c.in_err-depart_some-in-Depart.ensures.err _)))

pub returns-in_err-depart_some-in-Drain-clause-err : goal.returns-in_err-depart_some-in-Drain-clause-err
returns-in_err-depart_some-in-Drain-clause-err g c =
    let p = err_from_is_err_and c.from_residual-in_err-depart_some-in-Drain.result c.from_residual-in_err-depart_some-in-Drain.ensures.1 in
    rw (p.1, c.in-Drain.is) (drain_stops g.C.Scheduler (recording g.W.Recorder (g.P.Packets.captures c.args.packets.now c.args.source.now)) (g.C.Scheduler.policy c.args.self.now.scheduler) c.held-held.result _ _ _ _ _ (c.held-held.ensures c.args.under.now) (stops_so g.C.Scheduler (recording_gives g.W.Recorder any_bytes (g.P.Packets.captures c.args.packets.now c.args.source.now) (λ bytes are. tt)) (g.C.Scheduler.policy c.args.self.now.scheduler) (replicate c.held-held.result (Depart None)) _ _ _ _ (c.in_err-depart_some-in-Drain.ensures.err _)))

pub returns-in-Arrive-clause-ok : goal.returns-in-Arrive-clause-ok
returns-in-Arrive-clause-ok g c =
    rw c.in-Arrive.is (if_ok_turned c.arrive_some.result _ _ (λ e all. some_done g.C.Scheduler (recording g.W.Recorder (g.P.Packets.captures c.args.packets.now c.args.source.now)) (g.C.Scheduler.policy c.args.self.now.scheduler) c.in-Arrive.count e _ _ _ _ all) c.arrive_some.ensures.ok)

pub returns-in-Arrive-clause-err : goal.returns-in-Arrive-clause-err
returns-in-Arrive-clause-err g c =
    rw c.in-Arrive.is (on_err_turned c.arrive_some.result _ _ (λ stop. some_stops g.C.Scheduler (recording g.W.Recorder (g.P.Packets.captures c.args.packets.now c.args.source.now)) (g.C.Scheduler.policy c.args.self.now.scheduler) c.in-Arrive.count _ _ _ _ _ stop) c.arrive_some.ensures.err)

pub returns-in_ok-depart_some-in-Depart-clause-ok : goal.returns-in_ok-depart_some-in-Depart-clause-ok
returns-in_ok-depart_some-in-Depart-clause-ok g c =
    rw c.in-Depart.is (departures_done g.C.Scheduler (recording g.W.Recorder (g.P.Packets.captures c.args.packets.now c.args.source.now)) (g.C.Scheduler.policy c.args.self.now.scheduler) c.in-Depart.count _ _ _ (makes_so g.C.Scheduler (recording_gives g.W.Recorder any_bytes (g.P.Packets.captures c.args.packets.now c.args.source.now) (λ bytes are. tt)) (g.C.Scheduler.policy c.args.self.now.scheduler) (replicate c.in-Depart.count (Depart None)) _ _ (c.in_ok-depart_some-in-Depart.ensures.ok _)))

pub returns-in_ok-depart_some-in-Drain-clause-ok : goal.returns-in_ok-depart_some-in-Drain-clause-ok
returns-in_ok-depart_some-in-Drain-clause-ok g c =
    rw c.in-Drain.is (drain_done g.C.Scheduler (recording g.W.Recorder (g.P.Packets.captures c.args.packets.now c.args.source.now)) (g.C.Scheduler.policy c.args.self.now.scheduler) c.requires.set.accepted c.held-held.result _ _ _ (c.held-held.ensures c.args.under.now) (makes_so g.C.Scheduler (recording_gives g.W.Recorder any_bytes (g.P.Packets.captures c.args.packets.now c.args.source.now) (λ bytes are. tt)) (g.C.Scheduler.policy c.args.self.now.scheduler) (replicate c.held-held.result (Depart None)) _ _ (c.in_ok-depart_some-in-Drain.ensures.ok _)))
