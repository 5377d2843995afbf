use Rattle.events_core.proofs.Prelude.{sym, ◌∙◌, ◌≡◌, arith, subst, ◌++◌, ap, ◌+◌, ◌⊎◌, append-nil, IsFirstFault, IsScript, counts_of, NoMemory}
use Rattle.std.specs.Option.{option_to_list}
use Rattle.std.proofs.lemmas.Result.{err_from_is_err_and}
use Rattle.events_core.proofs.ScriptLaws.{none_read, few_lines, line_more, all_lines, fault_found}
use Rattle.events_core.proofs.parse.read_lines.Goals as goal

pub loop-at-init : goal.loop-at-init
loop-at-init c = none_read _ _ (c.from_vec-steps.ensures ∙ c.new.ensures.items)

pub overflow_add-number : goal.overflow_add-number
overflow_add-number c =
    let few = few_lines _ _ _ _ _ c.loop-at.invariant c.loop-at-test.true in
    omega arith

pub returns-in_err-step : goal.returns-in_err-step
returns-in_err-step c =
    let left = err_from_is_err_and c.from_residual.result c.from_residual.ensures.1 in
    let found = fault_found _ _ _ _ _ _ _ c.in_err-step.field-0.0 c.requires c.loop-at.invariant c.line_from-next.ensures.line c.in_err-step.ensures.fault in
    rw left.1 (subst (λ f. (f ≡ NoMemory) ⊎ IsFirstFault c.args.text.now f) (sym left.2) found)

pub loop-at-preserved-in_ok-push : goal.loop-at-preserved-in_ok-push
loop-at-preserved-in_ok-push c =
    let steps : c.push.new.self ≡ c.loop-at.steps ++ option_to_list c.in_ok-step.field-0 = c.in_ok-push.ensures.ok ∙ ap (λ o. c.loop-at.steps ++ option_to_list o) (sym c.in-Some.is) in
    let one = ap (λ o. counts_of (option_to_list o)) c.in-Some.is in
    let sum : c.loop-at.counted + c.count-counted.result ≡ c.loop-at.counted + counts_of (option_to_list c.in_ok-step.field-0) = omega (arith, c.count-counted.ensures) in
    line_more _ _ _ _ _ _ _ _ _ _ c.loop-at.invariant c.line_from-next.ensures.line c.in_ok-step.ensures.ok c.in_ok-step.ensures.few steps sum

pub loop-at-preserved : goal.loop-at-preserved
loop-at-preserved c =
    let steps : c.loop-at.steps ≡ c.loop-at.steps ++ option_to_list c.in_ok-step.field-0 = sym (append-nil c.loop-at.steps) ∙ ap (λ o. c.loop-at.steps ++ option_to_list o) (sym c.in_default.is) in
    let one = ap (λ o. counts_of (option_to_list o)) c.in_default.is in
    let sum : c.loop-at.counted ≡ c.loop-at.counted + counts_of (option_to_list c.in_ok-step.field-0) = omega arith in
    line_more _ _ _ _ _ _ _ _ _ _ c.loop-at.invariant c.line_from-next.ensures.line c.in_ok-step.ensures.ok c.in_ok-step.ensures.few steps sum

pub returns : goal.returns
returns c = subst (IsScript c.args.text.now) (sym c.of.ensures) (all_lines _ _ _ _ _ c.requires c.loop-at.invariant c.loop-at-test.false)
