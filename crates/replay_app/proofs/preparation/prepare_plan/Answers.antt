use Rattle.replay_app.proofs.Prelude.{◌∷◌, []}
use Rattle.replay_app.specs.Jobs.{IsJobOutput, plans}
use Rattle.replay_app.proofs.AnswerLaws.{told-later}
use Rattle.replay_app.proofs.DecidedLaws.{passed, decided_so, same_trans}
use Rattle.replay_app.proofs.PreparedLaws.{policy_same, policy_out, target_same, target_out, planned_same}
use Rattle.replay_app.proofs.preparation.prepare_plan.Goals as goal

pub returns-in_err-policy_file-clause-job : goal.returns-in_err-policy_file-clause-job
returns-in_err-policy_file-clause-job g c = λ contents told taps.
    let f = c.args.files.now in
    policy_out f.latest (contents f.policy.now) _ (IsJobOutput contents taps)
    c.in_err-policy_file.field-0.0 (rw (told.0) at c.in_err-policy_file.ensures.read) c.in_err-policy_file.ensures.kind c.from_residual.result (passed _ _ c.from_residual.ensures.1)

pub returns-in_err-target-clause-job : goal.returns-in_err-target-clause-job
returns-in_err-target-clause-job g c = λ contents told taps.
    let f = c.args.files.now in
    let later = told-later _ _ _ _ contents (f.target.now ∷ []) c.in_ok-policy_file.ensures.kept.files told.1 in
    decided_so _ _ (IsJobOutput contents taps) c.from_residual-in_err-target.result
    (policy_same f.latest (contents f.policy.now) _ c.in_ok-policy_file.policy_file (rw told.0 at c.in_ok-policy_file.ensures.read))
    (target_out (contents f.target.now) _ (IsJobOutput contents taps)
    c.in_err-target.field-0.0 (rw (later.0) at c.in_err-target.ensures.read) c.in_err-target.ensures.kind c.from_residual-in_err-target.result (passed _ _ c.from_residual-in_err-target.ensures.1))

pub returns-then-plan-clause-job : goal.returns-then-plan-clause-job
returns-then-plan-clause-job g c = λ contents told taps.
    let f = c.args.files.now in
    let later = told-later _ _ _ _ contents (f.target.now ∷ []) c.in_ok-policy_file.ensures.kept.files told.1 in
    same_trans _ _ _
    (policy_same f.latest (contents f.policy.now) _ c.in_ok-policy_file.policy_file (rw told.0 at c.in_ok-policy_file.ensures.read))
    (same_trans _ _ _
    (target_same (contents f.target.now) _ c.in_ok-target.target (rw (later.0) at c.in_ok-target.ensures.read))
    (planned_same c.in_ok-policy_file.policy_file.policy.policy c.in_ok-target.target _ c.in_ok-plan.plan.text.items (rw c.if-plan.true at c.in_ok-plan.ensures.plan)))

pub returns-then-plan-clause-fits : goal.returns-then-plan-clause-fits
returns-then-plan-clause-fits g c = (plans _ _ _ _, tt)

pub returns-clause-job : goal.returns-clause-job
returns-clause-job g c = λ contents told taps.
    let f = c.args.files.now in
    let later = told-later _ _ _ _ contents (f.target.now ∷ []) c.in_ok-policy_file.ensures.kept.files told.1 in
    same_trans _ _ _
    (policy_same f.latest (contents f.policy.now) _ c.in_ok-policy_file.policy_file (rw told.0 at c.in_ok-policy_file.ensures.read))
    (same_trans _ _ _
    (target_same (contents f.target.now) _ c.in_ok-target.target (rw (later.0) at c.in_ok-target.ensures.read))
    (planned_same c.in_ok-policy_file.policy_file.policy.policy c.in_ok-target.target _ c.in_ok-plan.plan.text.items (rw c.if-plan.false at c.in_ok-plan.ensures.plan)))
