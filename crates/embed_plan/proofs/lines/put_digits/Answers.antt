use Rattle.embed_plan.proofs.Prelude.{◌++◌, ◌∙◌, ap, sym, take, [], ◌∷◌, append_assoc, get_or, decimal, address_text}
use Rattle.outside_core.proofs.Joined.{numbers_step}
use Rattle.embed_plan.proofs.lines.put_digits.Goals as goal

pub loop-digit-preserved : goal.loop-digit-preserved
loop-digit-preserved c =
    let ns = c.args.rest.now in
    let i = c.loop-digit.digit-index in
    let first = c.args.first in
    let old = c.args.into.now.items in
    let so_far = address_text (first ∷ take i ns) in
    let next = decimal (get_or ns i 0) in
    record {
      text = c.in_ok-put_decimal-2.ensures.ok
          ∙ ap (λ s. s ++ next) (c.in_ok-push.ensures.items ∙ ap (λ s. s ++ 46 ∷ []) c.loop-digit.invariant.text)
          ∙ append_assoc (old ++ so_far) (46 ∷ []) next
          ∙ append_assoc old so_far (46 ∷ next)
          ∙ ap (λ s. old ++ s) (sym (numbers_step 46 ns first i c.loop-digit-test.true));
    }
