use Rattle.library_tests.proofs.Prelude.{arith, ◌∙◌, sym, ap, Program}
use Rattle.library_tests.proofs.Roots.{has_a_node, of_root}
use Rattle.library_tests.proofs.Exchanges.{plain_leaf}
use Rattle.library_tests.proofs.fabrics.is_plain_leaf.Goals as goal

pub checked-requires : goal.checked-requires
checked-requires c = record { there = has_a_node c.args.policy.now.policy.tree }

pub returns-clause-plain : goal.returns-clause-plain
returns-clause-plain c ended =
    let policy = c.args.policy.now.policy in
    plain_leaf policy c.depth.ensures.accepted (omega (arith, c.if-depth-gt0.false, c.depth.ensures.levels))
    (of_root policy.tree c.checked.result.now (λ p. p.keeps) c.checked.ensures.program
    (sym (ap (λ (p : Program). p.keeps) c.transaction-transaction.ensures.same) ∙ c.is_empty.ensures.0 c.if-not-is_empty.false))
    (of_root policy.tree c.checked.result.now (λ p. p.eaches) c.checked.ensures.program
    (sym (ap (λ (p : Program). p.eaches) c.transaction-transaction.ensures.same) ∙ c.is_empty-2.ensures.0 ended))
    (c.is_root_limited.ensures.limits c.if-is_root_limited.false)
