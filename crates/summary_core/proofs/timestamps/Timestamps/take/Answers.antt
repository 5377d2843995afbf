use Rattle.std.proofs.Common.{◌∙◌, arith}
use Rattle.summary_core.proofs.Slots.{emptied}
use Rattle.summary_core.proofs.timestamps.Timestamps.take.Goals as goal

pub returns-clause-others : goal.returns-clause-others
returns-clause-others c = λ n.
    c.trim.ensures n
    ∙ emptied c.args.self.now.first c.args.self.now.slots.items c.args.number (omega (arith, c.if-number-self.false)) (omega (arith, c.in-Some.ensures.item)) n
