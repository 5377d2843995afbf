use Rattle.events_core.proofs.Prelude.{sym, ◌∙◌, ◌≡◌, refl, get_or, rules, Arrive, Depart}
use Rattle.events_core.proofs.UsualLaws.{word_some, counted_carries}
use Rattle.events_core.proofs.line.usual_step.Goals as goal

pub returns-in_ok-decimal-in-97 : goal.returns-in_ok-decimal-in-97
returns-in_ok-decimal-in-97 c =
    let line = c.args.statement.now in
    let first : get_or line 0 0 ≡ 97 = search rules in
    let second : get_or line 1 0 ≡ 32 = search rules in
    counted_carries line 97 c.in_ok-decimal-in-97.field-0 (Arrive c.in_ok-decimal-in-97.field-0) refl refl refl refl c.in-97.len_at_least first second (sym c.decimal.ensures.value ∙ c.in_ok-decimal-in-97.was)

pub returns-in_ok-decimal-in-100 : goal.returns-in_ok-decimal-in-100
returns-in_ok-decimal-in-100 c =
    let line = c.args.statement.now in
    let first : get_or line 0 0 ≡ 100 = search rules in
    let second : get_or line 1 0 ≡ 32 = search rules in
    counted_carries line 100 c.in_ok-decimal-in-100.field-0 (Depart c.in_ok-decimal-in-100.field-0) refl refl refl refl c.in-100.len_at_least first second (sym c.decimal-in-100.ensures.value ∙ c.in_ok-decimal-in-100.was)

pub returns-in_default : goal.returns-in_default
returns-in_default c = word_some c.args.statement.now c.of.result c.of.ensures
