use Rattle.tap_core.proofs.Prelude.{◌∙◌, ap, sym, ◌++◌, List, take, ℕ, [], ◌∷◌, get_or, append_assoc, decimal, join_with_byte, words_of}
use Rattle.tap_core.proofs.LineLaws.{words_step}
use Rattle.tap_core.proofs.line.put_line.Goals as goal

pub loop-number-preserved : goal.loop-number-preserved
loop-number-preserved c =
    let so_far : List ℕ = join_with_byte 32 (words_of c.args.name.now (take c.loop-number.number-index c.args.numbers.now)) in
    let next = decimal (get_or c.args.numbers.now c.loop-number.number-index 0) in
    c.in_ok-put_decimal.ensures.ok
    ∙ ap (λ s. s ++ next) (c.in_ok-extend_from_slice-2.ensures.items ∙ ap (λ s. s ++ 32 ∷ []) c.loop-number.invariant)
    ∙ append_assoc so_far (32 ∷ []) next
    ∙ sym (words_step c.args.name.now c.args.numbers.now c.loop-number.number-index c.loop-number-test.true)
