use Rattle.policy_rules.proofs.Prelude.{◌∙◌, ap, List, sym, ◌++◌, subst, AllByRecursion, Program, IsShaped, entries_of, programs}
use Rattle.policy_rules.proofs.KnownPrograms.{shaped_known, fault_answered}
use Rattle.policy_rules.proofs.checked.checked_transactions.Goals as goal

pub check-requires : goal.check-requires
check-requires c = record {
  shaped = subst (λ (l : List Program). AllByRecursion IsShaped l) (sym (c.in_ok-add_written.ensures ∙ ap (λ (l : List Program). l ++ programs (entries_of c.args.lines.now)) c.in_ok-transactions.ensures)) (shaped_known (entries_of c.args.lines.now) c.requires.rising c.requires.few c.requires.valid);
}

pub returns-clause-fault : goal.returns-clause-fault
returns-clause-fault c =
    fault_answered (entries_of c.args.lines.now) _ (c.in_ok-add_written.ensures ∙ ap (λ (l : List Program). l ++ programs (entries_of c.args.lines.now)) c.in_ok-transactions.ensures) c.requires.few c.check.result c.map_err.result c.map_err.ensures.cases
    (λ line. (c.check.ensures.clash line).0) (λ line. (c.check.ensures.wide line).0) (λ line. (c.check.ensures.zero line).0)
