use Rattle.study.proofs.Prelude.{err_from_is_err_and, forward_ends, policy_in}
use Rattle.study.proofs.RunLaws.{departures_told, departures_cut}
use Rattle.study.proofs.views.view_departures.Goals as goal

pub returns-in_err-ending-clause-answer : goal.returns-in_err-ending-clause-answer
returns-in_err-ending-clause-answer g c =
    let p = err_from_is_err_and c.from_residual.result c.from_residual.ensures.1 in
    rw (p.1) (departures_cut (policy_in c.args.place) _ _ c.args.rate _ _ c.in_err-ending.ensures.part)

pub returns-clause-answer : goal.returns-clause-answer
returns-clause-answer g c = rw (c.of_forward.ensures) (departures_told (policy_in c.args.place) _ _ c.args.rate _ _ c.in_ok-ending.ensures.ending c.in_ok-ending.ensures.text)

pub returns-clause-statuses : goal.returns-clause-statuses
returns-clause-statuses g c = rw (c.of_forward.ensures) (forward_ends c.in_ok-ending.ending)
