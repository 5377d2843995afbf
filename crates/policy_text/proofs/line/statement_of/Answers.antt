use Rattle.policy_text.proofs.Prelude.{ap, glyphs_of}
use Rattle.policy_text.proofs.TextSteps.{form_of_said}
use Rattle.policy_text.proofs.line.statement_of.Goals as goal

pub returns-clause-only : goal.returns-clause-only
returns-clause-only c = λ s has. c.parse_statement.ensures.only s (form_of_said _ _ _ _ _ s c.dialect.ensures c.in_ok-items.ensures.said (ap glyphs_of c.as_slice.ensures) has)
