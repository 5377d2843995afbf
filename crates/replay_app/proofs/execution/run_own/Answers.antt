use Rattle.replay_app.proofs.Prelude.{err_from_is_err_and, pace_of}
use Rattle.replay_app.proofs.AnswerLaws.{run_ends}
use Rattle.replay_app.proofs.CaptureLaws.{own_told, own_cut}
use Rattle.replay_app.proofs.execution.run_own.Goals as goal

pub returns-in_err-direct-clause-answer : goal.returns-in_err-direct-clause-answer
returns-in_err-direct-clause-answer g c =
    let p = err_from_is_err_and c.from_residual.result c.from_residual.ensures.1 in
    rw (p.1) (own_cut c.args.policy.now (pace_of c.args.task.now.pace) _ _ _ _ _ c.in_err-direct.ensures.report)

pub returns-clause-answer : goal.returns-clause-answer
returns-clause-answer g c = rw (c.of_run.ensures) (own_told c.args.policy.now (pace_of c.args.task.now.pace) _ _ _ _ c.in_ok-direct.ensures.report)

pub returns-clause-statuses : goal.returns-clause-statuses
returns-clause-statuses g c = rw (c.of_run.ensures) (run_ends c.in_ok-direct.field-0)
