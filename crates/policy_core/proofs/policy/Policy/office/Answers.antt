use Rattle.policy_core.proofs.Prelude.{List, subst, entries_of, IsResolved, Entry}
use Rattle.policy_core.proofs.OfficeLines.{written, on-lines, only-want}
use Rattle.policy_core.proofs.OfficeStatements.{office-accepted}
use Rattle.policy_core.proofs.policy.Policy.office.Goals as goal

pub of-requires-clause-written : goal.of-requires-clause-written
of-requires-clause-written c = written c.in_ok-statements.field-0 c.in_ok-statements.ensures

pub returns-in-Ok-clause-accepted : goal.returns-in-Ok-clause-accepted
returns-in-Ok-clause-accepted c = office-accepted

pub returns-in-Ok-clause-policy : goal.returns-in-Ok-clause-policy
returns-in-Ok-clause-policy c =
    subst (λ (es : List Entry). IsResolved es c.in-Ok.policy) (on-lines c.in_ok-lines.lines.held c.in_ok-statements.field-0 c.in_ok-lines.ensures c.in_ok-statements.ensures) c.in-Ok.ensures.policy

pub want-requires : goal.want-requires
want-requires c = record {
  want = only-want (entries_of c.in_ok-lines.lines.held) c.in-Err.fault (on-lines c.in_ok-lines.lines.held c.in_ok-statements.field-0 c.in_ok-lines.ensures c.in_ok-statements.ensures) c.in-Err.ensures.refuses;
}
