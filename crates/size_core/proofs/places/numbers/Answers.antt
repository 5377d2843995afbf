use Rattle.std.proofs.Common.{List, ℕ, ◌∷◌, [], ◌++◌, ◌+◌, ◌≡◌, ap, sym, ◌∙◌, arith}
use Rattle.size_core.proofs.NameLaws.{range-more}
use Rattle.size_core.proofs.places.numbers.Goals as goal

pub loop-number-preserved : goal.loop-number-preserved
loop-number-preserved c =
    let n = c.loop-number.number in
    record {
      items = c.in_ok-push.ensures.items ∙ ap (λ (z : List ℕ). z ++ n ∷ []) c.loop-number.invariant.items
          ∙ ap (λ (k : ℕ). Rattle.std.specs.List.range_with_len 0 n ++ k ∷ []) (let e : n ≡ 0 + n = omega arith in e) ∙ sym (range-more 0 n);
      few = omega (arith, c.loop-number-test.true);
    }
