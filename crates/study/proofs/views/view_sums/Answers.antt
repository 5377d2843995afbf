use Rattle.std.proofs.lemmas.Option.{IfSome_then}
use Rattle.study.proofs.Prelude.{◌∙◌, refl, inl, inr, err_from_is_err_and, pace_ends, paced_answer, policy_in, policy_file_in, pace_of}
use Rattle.summary_core.specs.contracts.recorder.SummaryRecorder.TheImpl.{ghosts}
use Rattle.study.proofs.LabelLaws.{held_labels_are}
use Rattle.study.proofs.ResultLaws.{if_told, refused_out, stopped_out, unwritten_out}
use Rattle.study.proofs.SumLaws.{sums_closed, sum_statuses}
use Rattle.study.proofs.views.view_sums.Goals as goal

pub record-requires-clause-endless : goal.record-requires-clause-endless
record-requires-clause-endless g c = λ w. refl

pub returns-in_err-leaves-clause-answer : goal.returns-in_err-leaves-clause-answer
returns-in_err-leaves-clause-answer g c = λ names.
    let p = err_from_is_err_and c.from_residual.result c.from_residual.ensures.1 in
    rw (p.1) (if_told _ (λ file. inl (unwritten_out _ _ _ _ _ _ _ refl)))

pub returns-in_err-table-clause-answer : goal.returns-in_err-table-clause-answer
returns-in_err-table-clause-answer g c = λ names.
    let p = err_from_is_err_and c.from_residual-in_err-table.result c.from_residual-in_err-table.ensures.1 in
    rw (p.1) (if_told _ (λ file. inl (unwritten_out _ _ _ _ _ _ _ refl)))

pub returns-in_err-summary-clause-answer : goal.returns-in_err-summary-clause-answer
returns-in_err-summary-clause-answer g c = λ names.
    let p = err_from_is_err_and c.from_residual-in_err-summary.result c.from_residual-in_err-summary.ensures.1 in
    rw (p.1) (if_told _ (λ file. inl (unwritten_out _ _ _ _ _ _ _ refl)))

pub returns-in_err-recorded-clause-answer : goal.returns-in_err-recorded-clause-answer
returns-in_err-recorded-clause-answer g c = λ names.
    let p = err_from_is_err_and c.from_residual-in_err-recorded.result c.from_residual-in_err-recorded.ensures.1 in
    rw (p.1) (IfSome_then _ c.in_err-recorded.ensures.part (λ file part. inl (stopped_out _ _ _ (paced_answer (policy_in c.args.place) (pace_of c.args.task.now.pace) file) ghosts _ (policy_in c.args.place).policy (λ captured a b os cut. cut) _ _ _ _ refl part)))

pub returns-in-Whole-clause-answer : goal.returns-in-Whole-clause-answer
returns-in-Whole-clause-answer g c = λ names.
    let nothing = rw (c.len.ensures ∙ c.in_ok-leaves.leaves.labels.ok.0) at (rw c.sum_rate.ensures.rate at c.in_ok-summary.ensures) in
    let told = c.tell_sums.ensures in
    let same = c.policy-policy.ensures.policy in
    IfSome_then _ (rw c.in-Whole.is at c.in_ok-recorded.ensures.recorded) (λ file run. sums_closed (policy_file_in c.args.lines.now c.args.place) (pace_of c.args.task.now.pace) c.args.form (rw same at c.leaf_table.ensures.accepted) names _ _ _ _ nothing
    (rw same at c.in_ok-table.ensures.table) (rw same at c.in_ok-leaves.ensures.labels) (held_labels_are c.args.lines.now.held) _ _ _ _ c.tell_sums.result _ _ _ run
    told.room told.status (rw c.deref.ensures.value at told.text) (rw c.deref.ensures.value at told.part))

pub returns-clause-answer : goal.returns-clause-answer
returns-clause-answer g c = λ names.
    rw (c.of_run.ensures) (IfSome_then _ (rw c.in-Refused.is at c.in_ok-recorded.ensures.recorded) (λ file run. inl (refused_out _ _ _ _ _ _ _ run)))

pub returns-in-Whole-clause-statuses : goal.returns-in-Whole-clause-statuses
returns-in-Whole-clause-statuses g c =
    sum_statuses c.args.task.now.pace c.in-Whole.ending c.tell_sums.result (rw c.in-Whole.is at c.in_ok-recorded.ensures.ends) c.tell_sums.ensures.statuses

pub returns-clause-statuses : goal.returns-clause-statuses
returns-clause-statuses g c =
    rw (c.of_run.ensures) (inr (pace_ends c.args.task.now.pace c.in-Refused.ending (rw c.in-Refused.is at c.in_ok-recorded.ensures.ends)))
