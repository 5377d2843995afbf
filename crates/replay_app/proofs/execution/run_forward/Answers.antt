use Rattle.replay_app.proofs.Prelude.{err_from_is_err_and, laid_by}
use Rattle.replay_app.proofs.AnswerLaws.{forward_ends}
use Rattle.replay_app.proofs.ForwardLaws.{forward_told, forward_cut, forward_holds, forward_holds_part}
use Rattle.replay_app.proofs.execution.run_forward.Goals as goal

pub returns-in_err-ending-clause-answer : goal.returns-in_err-ending-clause-answer
returns-in_err-ending-clause-answer g c =
    let p = err_from_is_err_and c.from_residual.result c.from_residual.ensures.1 in
    rw (p.1) (forward_cut c.args.laid.policy (laid_by c.args.laid) c.args.rate _ _ _ _ c.in_err-ending.ensures.part)

pub returns-in_err-ending-clause-left : goal.returns-in_err-ending-clause-left
returns-in_err-ending-clause-left g c =
    let p = err_from_is_err_and c.from_residual.result c.from_residual.ensures.1 in
    rw (p.1) (forward_holds_part c.args.laid.policy (laid_by c.args.laid) c.args.rate g.F.Fabric _ _ _ _ c.in_err-ending.ensures.fabric_part)

pub returns-clause-answer : goal.returns-clause-answer
returns-clause-answer g c = rw (c.of_forward.ensures) (forward_told c.args.laid.policy (laid_by c.args.laid) c.args.rate _ _ _ _ c.in_ok-ending.ensures.ending c.in_ok-ending.ensures.text)

pub returns-clause-left : goal.returns-clause-left
returns-clause-left g c = forward_holds c.args.laid.policy (laid_by c.args.laid) c.args.rate g.F.Fabric _ _ _ _ c.in_ok-ending.ensures.fabric

pub returns-clause-statuses : goal.returns-clause-statuses
returns-clause-statuses g c = rw (c.of_forward.ensures) (forward_ends c.in_ok-ending.ending)
