use Rattle.study.proofs.Prelude.{refl, err_from_is_err_and, Begins-trans, pace_ends, pace_of, policy_in}
use Rattle.event_json.specs.contracts.recorder.JsonReportRecorder.TheImpl.{ghosts}
use Rattle.study.proofs.JsonLaws.{json_unread, json_refused, json_closed, json_stopped}
use Rattle.study.proofs.RunLaws.{ending_statuses}
use Rattle.study.proofs.views.view_json.Goals as goal

pub returns-in_err-recorder-clause-answer : goal.returns-in_err-recorder-clause-answer
returns-in_err-recorder-clause-answer g c =
    let p = err_from_is_err_and c.from_residual.result c.from_residual.ensures.1 in
    rw (p.1) (json_unread (policy_in c.args.place) (pace_of c.args.task.now.pace) _ _ _)

pub returns-in_err-recorded-clause-answer : goal.returns-in_err-recorded-clause-answer
returns-in_err-recorded-clause-answer g c =
    let p = err_from_is_err_and c.from_residual-in_err-recorded.result c.from_residual-in_err-recorded.ensures.1 in
    let fresh = rw c.rate_of.ensures.rate at c.in_ok-recorder.ensures.nothing in
    rw (p.1) (json_stopped (policy_in c.args.place) (pace_of c.args.task.now.pace) _ fresh ghosts (λ captured a b os v r. r) (λ captured a b os r. r) _ _ _ _ c.in_err-recorded.ensures.part c.record.ensures.outside.kept.begins)

pub returns-in-Whole-clause-answer : goal.returns-in-Whole-clause-answer
returns-in-Whole-clause-answer g c =
    let fresh = rw c.rate_of.ensures.rate at c.in_ok-recorder.ensures.nothing in
    let run = rw c.in-Whole.is at c.in_ok-recorded.ensures.recorded in
    let begins = Begins-trans _ _ _ c.record.ensures.outside.kept.begins c.close_json.ensures.kept.begins in
    json_closed (policy_in c.args.place) (pace_of c.args.task.now.pace) _ fresh ghosts (λ captured a b os v r. r) (λ captured a b os r. r) _ _ _ c.close_json.result _ _ _ run begins
    c.close_json.ensures.status c.close_json.ensures.whole c.close_json.ensures.cut

pub returns-in-Refused-clause-answer : goal.returns-in-Refused-clause-answer
returns-in-Refused-clause-answer g c =
    rw (c.of_run.ensures) (json_refused (policy_in c.args.place) (pace_of c.args.task.now.pace) _ _ _ _ (rw c.in-Refused.is at c.in_ok-recorded.ensures.recorded))

pub returns-in-Whole-clause-statuses : goal.returns-in-Whole-clause-statuses
returns-in-Whole-clause-statuses g c =
    ending_statuses c.args.task.now.pace c.in-Whole.ending c.close_json.result (rw c.in-Whole.is at c.in_ok-recorded.ensures.ends) c.close_json.ensures.status

pub returns-in-Refused-clause-statuses : goal.returns-in-Refused-clause-statuses
returns-in-Refused-clause-statuses g c =
    rw (c.of_run.ensures) (pace_ends c.args.task.now.pace c.in-Refused.ending (rw c.in-Refused.is at c.in_ok-recorded.ensures.ends))

pub record-requires-clause-endless : goal.record-requires-clause-endless
record-requires-clause-endless g c = λ w. refl

pub close_json-requires : goal.close_json-requires
close_json-requires g c = record { live = rw c.in-Whole.is at c.in_ok-recorded.ensures.live }
