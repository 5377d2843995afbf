use Rattle.policy_rules.proofs.JoinedPrograms.{program_line}
use Rattle.policy_rules.proofs.transaction.transaction.Goals as goal

pub loop-line-preserved : goal.loop-line-preserved
loop-line-preserved c =
    program_line c.in_ok-variables.variables.keeps c.in_ok-variables.variables.eaches c.args.body.now c.loop-line.line-index c.loop-line-item.result _ _ c.loop-line-test.true c.loop-line-item.is c.loop-line.invariant c.in_ok-add.ensures
