use Rattle.std.proofs.Common.{◌∙◌, arith}
use Rattle.report_core.proofs.DigitLaws.{leading_in_line}
use Rattle.report_core.proofs.line.Leading.put.Goals as goal

pub returns-clause-text : goal.returns-clause-text
returns-clause-text g c = λ n is.
    leading_in_line g.row.UNIT c.self.inside.least c.self.inside.count c.args.at c.put_array.result c.self.inside.digits c.put_array.new.line c.args.line.now
    c.self.invariant (omega (arith, c.requires.room)) (omega (arith, c.put_array.ensures.end)) c.put_array.ensures.text n (c.self.view_is ∙ is)
