use Rattle.policy_rules.proofs.TallyLaws.{tally-new, tally-again}
use Rattle.policy_rules.proofs.tally.Tally.add.Goals as goal

pub returns-in_ok-add-2-clause-tally : goal.returns-in_ok-add-2-clause-tally
returns-in_ok-add-2-clause-tally c = λ all t. tally-again _ _ _ _ all c.args.name.now c.in_ok-add.field-0 t c.in_ok-add.ensures.ok c.in_ok-add-2.ensures.ok c.in_ok-add.ensures.new c.if-not-branch.true

pub returns-else-not-branch-clause-tally : goal.returns-else-not-branch-clause-tally
returns-else-not-branch-clause-tally c = λ all t. tally-new _ _ _ all c.args.name.now c.in_ok-add.field-0 t c.in_ok-add.ensures.ok c.in_ok-add.ensures.new c.if-not-branch.false
