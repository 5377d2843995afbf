use Rattle.std.proofs.Common.{◌≡◌, ◌+◌, ◌++◌, length, take, decimal, sym, ap, ◌∙◌, arith}
use Rattle.std.proofs.lemmas.Fmt.{decimal_digit}
use Rattle.report_core.proofs.DigitLaws.{count_of_digits}
use Rattle.report_core.proofs.LineSteps.{put_between}
use Rattle.report_core.proofs.line.put_number.Goals as goal

pub returns-then-value-lt10-clause-text : goal.returns-then-value-lt10-clause-text
returns-then-value-lt10-clause-text c =
    c.put_array.ensures.text ∙ ap (λ s. take c.args.at c.args.line.now ++ s) (sym (decimal_digit c.args.value c.if-value-lt10.true))

pub write_digits-requires : goal.write_digits-requires
write_digits-requires c =
    let log = c.ilog10.ensures in
    let count : length (decimal c.args.value) ≡ c.ilog10.result + 1 = count_of_digits c.ilog10.result c.args.value log.power_le log.next_power_gt c.ranges.value.fits in
    (omega (arith, count), omega (arith, c.requires.room, log.bound))

pub returns-clause-text : goal.returns-clause-text
returns-clause-text c =
    let log = c.ilog10.ensures in
    let put = c.write_digits.ensures in
    let count : length (decimal c.args.value) ≡ c.ilog10.result + 1 = count_of_digits c.ilog10.result c.args.value log.power_le log.next_power_gt c.ranges.value.fits in
    put_between c.args.at c.write_digits.result _ c.write_digits.new.buf c.args.line.now (decimal c.args.value) _ (omega (arith, count, put.start)) put.start (omega (arith, c.requires.room)) put.before put.written
