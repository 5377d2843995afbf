use Rattle.study.proofs.Prelude.{err_from_is_err_and, pace_ends, pace_of, policy_in}
use Rattle.replay_app.proofs.CaptureLaws.{own_told, own_cut}
use Rattle.study.proofs.views.view_report.Goals as goal

pub returns-in_err-ending-clause-answer : goal.returns-in_err-ending-clause-answer
returns-in_err-ending-clause-answer g c =
    let p = err_from_is_err_and c.from_residual.result c.from_residual.ensures.1 in
    rw (p.1) (own_cut (policy_in c.args.place) (pace_of c.args.task.now.pace) _ _ _ _ _ c.in_err-ending.ensures.report)

pub returns-clause-answer : goal.returns-clause-answer
returns-clause-answer g c = rw (c.of_run.ensures) (own_told (policy_in c.args.place) (pace_of c.args.task.now.pace) _ _ _ _ c.in_ok-ending.ensures.report)

pub returns-clause-statuses : goal.returns-clause-statuses
returns-clause-statuses g c = rw (c.of_run.ensures) (pace_ends c.args.task.now.pace c.in_ok-ending.ending c.in_ok-ending.ensures.ends)
