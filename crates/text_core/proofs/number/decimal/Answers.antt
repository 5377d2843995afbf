use Rattle.std.proofs.Common.{suc, ◌∙◌, drop, get_or, sym, ap}
use Rattle.std.proofs.Math.Seq.{drop-cons}
use Rattle.text_core.proofs.DecimalLemmas.{number_after, number_after-stop}
use Rattle.text_core.proofs.number.decimal.Goals as goal

pub returns-then-value-digit-clause-value : goal.returns-then-value-digit-clause-value
returns-then-value-digit-clause-value c =
    let token = c.args.token.now in
    let i = c.loop-byte.byte-index in
    let digit = sym c.is_ascii_digit.ensures.value ∙ c.if-not-is_ascii_digit.false in
    let stop = number_after-stop c.loop-byte.value (get_or token i 0) (drop (suc i) token) digit c.if-value-digit.true in
    sym (c.loop-byte.invariant.same ∙ ap (number_after c.loop-byte.value) (drop-cons token i 0 c.loop-byte-test.true) ∙ stop)
