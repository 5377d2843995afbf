use Rattle.replay_app.proofs.Prelude.{[], ◌∷◌}
use Rattle.replay_app.specs.Jobs.{IsJobOutput, goes_direct}
use Rattle.replay_app.proofs.AnswerLaws.{told-later}
use Rattle.replay_app.proofs.DecidedLaws.{passed, decided_so, same_trans}
use Rattle.replay_app.proofs.PreparedLaws.{policy_same, policy_out, script_same, script_out}
use Rattle.replay_app.proofs.preparation.prepare_direct.Goals as goal

pub returns-in_err-policy_file-clause-job : goal.returns-in_err-policy_file-clause-job
returns-in_err-policy_file-clause-job g c = λ contents told taps.
    let f = c.args.files.now in
    policy_out f.latest (contents f.policy.now) _ (IsJobOutput contents taps)
    c.in_err-policy_file.field-0.0 (rw (told.0) at c.in_err-policy_file.ensures.read) c.in_err-policy_file.ensures.kind c.from_residual.result (passed _ _ c.from_residual.ensures.1)

pub returns-in_err-script-clause-job : goal.returns-in_err-script-clause-job
returns-in_err-script-clause-job g c = λ contents told taps.
    let f = c.args.files.now in
    let later = told-later _ _ _ _ contents (f.capture.now ∷ f.script.now ∷ []) c.in_ok-policy_file.ensures.kept.files told.1 in
    decided_so _ _ (IsJobOutput contents taps) c.from_residual-in_err-script.result
    (policy_same f.latest (contents f.policy.now) _ c.in_ok-policy_file.policy_file (rw told.0 at c.in_ok-policy_file.ensures.read))
    (script_out (contents f.script.now) _ (IsJobOutput contents taps)
    c.in_err-script.field-0.0 (rw (later.1.0) at c.in_err-script.ensures.read) c.in_err-script.ensures.kind c.from_residual-in_err-script.result (passed _ _ c.from_residual-in_err-script.ensures.1))

pub returns-clause-job : goal.returns-clause-job
returns-clause-job g c = λ contents told taps.
    let f = c.args.files.now in
    let later = told-later _ _ _ _ contents (f.capture.now ∷ f.script.now ∷ []) c.in_ok-policy_file.ensures.kept.files told.1 in
    same_trans _ _ _
    (policy_same f.latest (contents f.policy.now) _ c.in_ok-policy_file.policy_file (rw told.0 at c.in_ok-policy_file.ensures.read))
    (script_same (contents f.script.now) _ c.in_ok-script.script (rw (later.1.0) at c.in_ok-script.ensures.read))

pub returns-clause-fits : goal.returns-clause-fits
returns-clause-fits g c = (goes_direct _ _ _ _ _ _, c.in_ok-script.ensures.sound)
