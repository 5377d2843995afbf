use Rattle.replay_app.proofs.Prelude.{◌≡◌, ◌∙◌, sym, subst, List, ℕ, policy_file_of, checked}
use Rattle.replay_app.specs.Answer.{text_alone}
use Rattle.replay_app.specs.Decided.{AreSame}
use Rattle.replay_app.specs.Jobs.{IsJobOutput, checks}
use Rattle.replay_app.proofs.AnswerLaws.{printed}
use Rattle.replay_app.proofs.DecidedLaws.{passed, same_trans, exact}
use Rattle.replay_app.proofs.PreparedLaws.{policy_same, policy_out}
use Rattle.replay_app.proofs.preparation.prepare_check.Goals as goal

pub returns-in_err-policy_file-clause-job : goal.returns-in_err-policy_file-clause-job
returns-in_err-policy_file-clause-job g c = λ contents told taps.
    policy_out c.args.latest (contents c.args.name.now) _ (IsJobOutput contents taps)
    c.in_err-policy_file.field-0.0 (rw (told.0) at c.in_err-policy_file.ensures.read) c.in_err-policy_file.ensures.kind c.from_residual.result (passed _ _ c.from_residual.ensures.1)

pub returns-clause-job : goal.returns-clause-job
returns-clause-job g c = λ contents told taps.
    let j = c.in_ok-policy_file.policy_file in
    let text = c.into_vec.ensures ∙ printed j.lines _ c.in_ok-text.ensures.text in
    same_trans _ _ _
    (policy_same c.args.latest (contents c.args.name.now) _ j (rw told.0 at c.in_ok-policy_file.ensures.read))
    (subst (λ (t : List ℕ). AreSame (λ a. a ≡ checked (policy_file_of j)) (λ a. a ≡ text_alone 0 t)) (sym text) (exact _))

pub returns-clause-fits : goal.returns-clause-fits
returns-clause-fits g c = (checks _ _ _, tt)
