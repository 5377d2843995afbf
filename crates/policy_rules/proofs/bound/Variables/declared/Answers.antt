use Rattle.policy_rules.proofs.Prelude.{List, sym, length, subst, ◌≤◌, most_variables, entries_of, Name}
use Rattle.policy_rules.proofs.BodyLines.{keeps_line, eaches_line}
use Rattle.policy_rules.proofs.SoundBodies.{few_keeps_at, few_eaches_at}
use Rattle.policy_rules.proofs.bound.Variables.declared.Goals as goal

pub loop-statement-preserved : goal.loop-statement-preserved
loop-statement-preserved c = (
  keeps_line c.args.body.now c.loop-statement.statement-index c.loop-statement-item.result c.requires c.loop-statement-test.true c.loop-statement-item.is _ _ c.loop-statement.invariant.0 c.in_ok-declare.ensures.keeps,
  eaches_line c.args.body.now c.loop-statement.statement-index c.loop-statement-item.result c.requires c.loop-statement-test.true c.loop-statement-item.is _ _ c.loop-statement.invariant.1 c.in_ok-declare.ensures.eaches,
)

pub returns-clause-few_keeps : goal.returns-clause-few_keeps
returns-clause-few_keeps c = subst (λ (l : List Name). length l ≤ most_variables) (sym c.loop-statement.invariant.0) (few_keeps_at (entries_of c.args.body.now) c.loop-statement.statement-index c.requires)

pub returns-clause-few_eaches : goal.returns-clause-few_eaches
returns-clause-few_eaches c = subst (λ (l : List Name). length l ≤ most_variables) (sym c.loop-statement.invariant.1) (few_eaches_at (entries_of c.args.body.now) c.loop-statement.statement-index c.requires)
