use Rattle.std.proofs.Common.{◌+◌, ◌-◌, ◌++◌, length, take, ap, ◌∙◌, arith}
use Rattle.report_core.proofs.LineSteps.{put_both}
use Rattle.report_core.proofs.line.put_name.Goals as goal

pub returns-then-bytes-le8-clause-text : goal.returns-then-bytes-le8-clause-text
returns-then-bytes-le8-clause-text c =
    let name = c.as_bytes-bytes in
    let bytes = name.result.now in
    let both = c.in-Some-Some in
    let one = c.put_array in
    let two = c.put_array-then-bytes-le8 in
    put_both c.args.at 4 (c.args.at + length bytes - 4) one.result two.result bytes c.args.line.now one.new.line two.new.line both.first.now both.last.now
    (omega (arith, c.requires.room)) (omega (arith, c.if-bytes-le8.true)) (omega (arith, c.if-bytes-ge4.true)) (omega (arith, c.if-bytes-ge4.true)) one.ensures.end
    both.ensures.cases.same both.ensures'.cases.1.same one.ensures.text two.ensures.text
    ∙ ap (λ l. take c.args.at c.args.line.now ++ l) name.ensures.value

pub returns-then-bytes-le3-clause-text : goal.returns-then-bytes-le3-clause-text
returns-then-bytes-le3-clause-text c =
    let name = c.as_bytes-bytes in
    let bytes = name.result.now in
    let both = c.in-Some-Some-2 in
    let one = c.put_array-then-bytes-le3 in
    let two = c.put_array-then-bytes-le3-2 in
    put_both c.args.at 2 (c.args.at + length bytes - 2) one.result two.result bytes c.args.line.now one.new.line two.new.line both.first.now both.last.now
    (omega (arith, c.requires.room)) (omega (arith, c.if-bytes-le3.true)) (omega (arith, c.if-bytes-ge2.true)) (omega (arith, c.if-bytes-ge2.true)) one.ensures.end
    both.ensures.cases.same both.ensures'.cases.1.same one.ensures.text two.ensures.text
    ∙ ap (λ l. take c.args.at c.args.line.now ++ l) name.ensures.value
