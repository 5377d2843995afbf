use Rattle.std.proofs.Common.{◌-◌, ◌∙◌, arith, ap, take, sym, ◌++◌}
use Rattle.report_core.specs.Digits.{IsNear}
use Rattle.report_core.proofs.DigitLaws.{late_in_line}
use Rattle.report_core.proofs.line.put_late.Goals as goal
use Rattle.report_core.proofs.line.put_late.Goals.{then-not-is_near+else-value-lt-STARTS, else-not-is_near}

pub returns-clause-text : goal.returns-clause-text
returns-clause-text c =
    let kept = c.stored-2.inside in
    let i = c.stored-2.invariant in
    let near : IsNear 100000000 c.stored-2.inside.least c.args.value =
    elim c.if-not-is_near.branch [
      | then-not-is_near+else-value-lt-STARTS w ↦ record { low = omega (arith, w.renew.ensures.near.low, w.stored-is, c.stored-2.view_is); high = omega (arith, w.renew.ensures.near.high, w.stored-is, c.stored-2.view_is) }
      | else-not-is_near w ↦ let n = c.is_near.ensures.near w.if-not-is_near.false in record { low = omega (arith, n.low, w.stored-is, c.stored-2.view_is); high = omega (arith, n.high, w.stored-is, c.stored-2.view_is) }
    ] in
    let start = take c.args.at c.args.line.now in
    let first = take c.put-leading_end.result c.put-leading_end.new.line in
    let middle = take c.put_array-middle_end.result c.put_array-middle_end.new.line in
    late_in_line c.args.value i.leading (c.args.value - kept.least) start first middle (take c.put_array.result c.put_array.new.line)
    (omega (arith, near.low, i.round)) i.some (omega (arith, near.high)) c.ranges.value.fits
    (c.put-leading_end.ensures.text i.leading (sym c.stored-2.view_is ∙ i.round))
    (c.put_array-middle_end.ensures.text ∙ ap (λ l. first ++ l) c.four.ensures)
    (c.put_array.ensures.text ∙ ap (λ l. middle ++ l) c.four-2.ensures)
