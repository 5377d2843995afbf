use Rattle.policy_text.proofs.Prelude.{sym, ◌∙◌, refl, subst, StatesErr}
use Rattle.policy_text.proofs.TextSteps.{form_of}
use Rattle.policy_text.proofs.line.read_line.Goals as goal

pub returns-in-Err-NoForm : goal.returns-in-Err-NoForm
returns-in-Err-NoForm c = (refl, (sym c.requires ∙ c.if-not-clean.false, sym c.if-is_shaping.ensures, sym c.if-are_blanks.ensures, λ s carries. subst StatesErr c.in-Err-NoForm.field-0-is (c.in-Err-NoForm.ensures.only s (form_of _ _ s carries))))
