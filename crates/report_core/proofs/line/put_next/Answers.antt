use Rattle.std.proofs.Common.{◌-◌, ◌∙◌, arith, take, sym}
use Rattle.report_core.specs.Digits.{IsNear}
use Rattle.report_core.proofs.DigitLaws.{number_in_line, pairs_at}
use Rattle.report_core.proofs.line.put_next.Goals as goal
use Rattle.report_core.proofs.line.put_next.Goals.{then-not-is_near+else-value-lt100, else-not-is_near}

pub returns-clause-text : goal.returns-clause-text
returns-clause-text c =
    let kept = c.stored-2.inside in
    let i = c.stored-2.invariant in
    let near : IsNear 100 c.stored-2.inside.least c.args.value =
    elim c.if-not-is_near.branch [
      | then-not-is_near+else-value-lt100 w ↦ record { low = omega (arith, w.renew.ensures.near.low, w.stored-is, c.stored-2.view_is); high = omega (arith, w.renew.ensures.near.high, w.stored-is, c.stored-2.view_is) }
      | else-not-is_near w ↦ let n = c.is_near.ensures.near w.if-not-is_near.false in record { low = omega (arith, n.low, w.stored-is, c.stored-2.view_is); high = omega (arith, n.high, w.stored-is, c.stored-2.view_is) }
    ] in
    let two = pairs_at (c.args.value - kept.least) (omega (arith, near.high)) in
    number_in_line c.args.value i.leading (c.args.value - kept.least) c.put_array.result c.args.after (take c.args.at c.args.line.now) (take c.put-end.result c.put-end.new.line) (take c.put_array.result c.put_array.new.line)
    (omega (arith, near.low, i.round)) i.some (omega (arith, near.high)) c.ranges.value.fits
    (c.put-end.ensures.text i.leading (sym c.stored-2.view_is ∙ i.round)) (rw (← two.0, ← two.1) c.put_array.ensures.text)
