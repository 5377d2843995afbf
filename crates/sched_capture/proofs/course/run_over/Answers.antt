use Rattle.sched_capture.proofs.Prelude.{err_from_is_err_and, pace_of, answer_of}
use Rattle.sched_capture.specs.CapturePackets.{left_of}
use Rattle.sched_capture.proofs.FromStart.{stand_at_start, reported, state_told, amid_told, watched_told, unmoved}
use Rattle.sched_capture.proofs.Refusals.{unreported}
use Rattle.sched_capture.proofs.course.run_over.Goals as goal

pub play-requires-clause-stands : goal.play-requires-clause-stands
play-requires-clause-stands g c =
    let r = c.requires in
    stand_at_start g.C.Scheduler.stands _ c.args.policy.now.policy _ _ _ r.start.policy_is (rw r.start.policy_is at r.start.set.accepted) r.start.stands

pub returns-clause-report : goal.returns-clause-report
returns-clause-report g c =
    let r = c.requires in
    let e = c.play.ensures in
    reported g.C.Scheduler _ c.args.policy.now.policy c.args.pace _ _ _ r.start.policy_is (rw r.start.policy_is at r.start.set.accepted) r.start.stands _ _ _ _ _ _ _ r.fresh e.keeps.kept_sink.begins e.ending e.ok e.err

pub returns-clause-state : goal.returns-clause-state
returns-clause-state g c =
    let r = c.requires in
    state_told g.C.Scheduler _ c.args.policy.now.policy c.args.pace _ _ _ r.start.policy_is (rw r.start.policy_is at r.start.set.accepted) r.start.stands _ _ _ _ _ _ c.play.ensures.ok

pub returns-clause-amid : goal.returns-clause-amid
returns-clause-amid g c =
    let r = c.requires in
    amid_told g.C.Scheduler _ c.args.policy.now.policy c.args.pace _ _ _ r.start.policy_is (rw r.start.policy_is at r.start.set.accepted) r.start.stands _ _ _ _ _ _ c.play.ensures.err

pub returns-clause-watched : goal.returns-clause-watched
returns-clause-watched g c =
    let r = c.requires in
    watched_told g.C.Scheduler _ c.args.policy.now.policy c.args.pace _ _ _ r.start.policy_is (rw r.start.policy_is at r.start.set.accepted) r.start.stands _ _ _ _ _ c.in_ok-begin.ensures.begun c.play.ensures.watched

pub returns-in_err-begin-clause-report : goal.returns-in_err-begin-clause-report
returns-in_err-begin-clause-report g c =
    let p = err_from_is_err_and c.from_residual.result c.from_residual.ensures.1 in
    rw (p.1) (unreported _ (left_of c.args.packets.now (g.S.Shelf.left c.args.shelf.now)) (g.K.Sink.written c.args.sink.now) (λ l. answer_of c.args.policy.now.policy (pace_of c.args.pace) l.packets l.fault))

pub returns-in_err-begin-clause-amid : goal.returns-in_err-begin-clause-amid
returns-in_err-begin-clause-amid g c =
    let p = err_from_is_err_and c.from_residual.result c.from_residual.ensures.1 in
    let r = c.requires in
    rw (p.1) (unmoved g.C.Scheduler _ c.args.policy.now.policy c.args.pace 0 c.args.run.now.scheduler c.args.under.now r.start.policy_is (rw r.start.policy_is at r.start.set.accepted) r.start.stands (left_of c.args.packets.now (g.S.Shelf.left c.args.shelf.now)))
