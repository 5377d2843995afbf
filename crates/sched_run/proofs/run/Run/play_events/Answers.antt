use Rattle.sched_run.proofs.Prelude.{err_from_is_err_and, on_err_weaker, link_agenda, recording}
use Rattle.sched_run.proofs.AgendaLaws.{stops_amid}
use Rattle.sched_run.proofs.RecordingLaws.{recording-joined}
use Rattle.sched_run.proofs.run.Run.play_events.Goals as goal

pub returns-in_ok-ending-in-Script-clause-ok : goal.returns-in_ok-ending-in-Script-clause-ok
returns-in_ok-ending-in-Script-clause-ok g c = rw c.in-Script.is c.in_ok-ending-in-Script.ensures.ok

pub returns-in_err-ending-in-Script-clause-err : goal.returns-in_err-ending-in-Script-clause-err
returns-in_err-ending-in-Script-clause-err g c =
    let p = err_from_is_err_and c.from_residual.result c.from_residual.ensures.1 in
    rw (p.1, c.in-Script.is) c.in_err-ending-in-Script.ensures.err

pub returns-in-Link-clause-ok : goal.returns-in-Link-clause-ok
returns-in-Link-clause-ok g c = rw c.in-Link.is c.play_link.ensures.ok

pub returns-in-Link-clause-err : goal.returns-in-Link-clause-err
returns-in-Link-clause-err g c =
    let S = g.C.Scheduler in
    let policy = S.policy c.args.self.now.scheduler in
    rw c.in-Link.is (on_err_weaker c.play_link.result
    (stops_amid S (recording g.W.Recorder (g.P.Packets.captures c.args.packets.now c.args.source.now)) (recording-joined g.W.Recorder g.met.W.Recorder.joined (g.P.Packets.captures c.args.packets.now c.args.source.now)) policy c.requires.set.accepted (link_agenda policy c.in-Link.rate 0) 0 g.W.Recorder.over _ _ _ _ _)
    c.play_link.ensures.err)
