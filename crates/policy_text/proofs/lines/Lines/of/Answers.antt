use Rattle.std.proofs.Common.{◌+◌, ◌<◌, length, ap, ◌∙◌, arith}
use Rattle.policy_text.proofs.EntryLaws.{empty_at, one_less, length_more, of_more, of_all, of_rising, of_written, all_came, one_came, still_few}
use Rattle.policy_text.proofs.lines.Lines.of.Goals as goal

pub overflow_add-number : goal.overflow_add-number
overflow_add-number c =
    let less : length c.loop-statement.yielded < length c.args.statements = still_few _ _ _ _ _ c.loop-statement.invariant.4 c.in-Some.ensures.steps.0 in
    omega (arith, c.loop-statement.invariant.2, c.requires.few)

pub loop-statement-preserved : goal.loop-statement-preserved
loop-statement-preserved c =
    let push = length_more c.loop-statement.yielded c.in-Some.statement in
    (tt, tt, (ap (λ n. n + 1) c.loop-statement.invariant.2 ∙ push), of_more _ _ _ _ _ c.in_ok-push.ensures.ok (ap (λ n. n + 1) c.loop-statement.invariant.2) c.loop-statement.invariant.3, one_came _ _ _ _ _ c.loop-statement.invariant.4 c.in-Some.ensures.steps.0, one_less _ _ _ _ _ c.loop-statement.invariant.5 c.in-Some.ensures.steps.0 c.in-Some.ensures.steps.1)

pub invariant_of-result : goal.invariant_of-result
invariant_of-result c =
    let all = of_all _ _ _ c.loop-statement.invariant.3 (all_came _ _ _ c.loop-statement.invariant.4 (empty_at _ _ c.loop-statement.invariant.5 c.in-None.ensures.steps.0)) in
    record { rising = of_rising _ _ all; written = of_written _ _ all c.requires.written }

pub returns : goal.returns
returns c = of_all _ _ _ c.loop-statement.invariant.3 (all_came _ _ _ c.loop-statement.invariant.4 (empty_at _ _ c.loop-statement.invariant.5 c.in-None.ensures.steps.0))
