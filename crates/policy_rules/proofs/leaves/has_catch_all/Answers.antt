use Rattle.policy_rules.proofs.Prelude.{◌∙◌, ap, sym, sense_of, is_catch_all}
use Rattle.policy_rules.proofs.CatchAlls.{catch_all-more, at_class, at_filter, at_another}
use Rattle.policy_rules.proofs.leaves.has_catch_all.Goals as goal
use Rattle.policy_rules.proofs.leaves.has_catch_all.Goals.{in-Class, in-Filter, in_default}

pub loop-statement-preserved : goal.loop-statement-preserved
loop-statement-preserved c =
    elim c.match-statement.branch [
      | in-Class w ↦ w.found-is ∙ at_class c.loop-statement.found w.is_empty-found.result c.loop-statement-item.result.1 w.in-Class.field-0 w.in-Class.field-1 w.in-Class.conditions w.in-Class.is w.is_empty-found.ensures
      | in-Filter w ↦ w.found-is ∙ at_filter c.loop-statement.found w.is_empty-found-in-Filter.result c.loop-statement-item.result.1 w.in-Filter.field-0 w.in-Filter.field-1 w.in-Filter.alternatives w.in-Filter.is w.is_empty-found-in-Filter.ensures
      | in_default w ↦ w.found-is ∙ at_another c.loop-statement.found c.loop-statement-item.result.1 w.in_default.not-Class w.in_default.not-Filter
    ]
    ∙ ap (λ b. is_catch_all b (sense_of c.loop-statement-item.result.1)) c.loop-statement.invariant
    ∙ sym (catch_all-more c.args.lines.now c.loop-statement.statement-index c.loop-statement-item.result c.loop-statement-test.true c.loop-statement-item.is)
