use Rattle.std.proofs.lemmas.Result.{err_from_is_err_and}
use Rattle.policy_text.proofs.StateLaws.{state_value, state_rest, state_refused, state_found, glyphs_of-empty, glyphs_of-some}
use Rattle.policy_text.proofs.statements.parse_statement.Goals as goal

pub returns-in_err-found-clause-only : goal.returns-in_err-found-clause-only
returns-in_err-found-clause-only c =
    let p = err_from_is_err_and c.from_residual.result c.from_residual.ensures.1 in
    rw (p.1, p.2) (λ s f. state_refused _ _ _ s c.in_err-found.ensures f)

pub returns-then-not-is_empty-clause-only : goal.returns-then-not-is_empty-clause-only
returns-then-not-is_empty-clause-only c = λ s f. glyphs_of-some _ c.if-not-is_empty.ensures (state_rest _ _ _ s _ c.in_ok-found.ensures f)

pub returns-clause-found : goal.returns-clause-found
returns-clause-found c = state_found _ _ _ _ c.in_ok-found.ensures (glyphs_of-empty _ c.if-not-is_empty.ensures)

pub returns-clause-only : goal.returns-clause-only
returns-clause-only c = λ s f. state_value _ _ _ s _ c.in_ok-found.ensures f
