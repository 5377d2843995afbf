use Rattle.std.proofs.Common.{◌≡◌, ◌∙◌, sym, ap, subst, List, ℕ, ◌++◌, ◌+◌, ◌∷◌, [], drop, get_or}
use Rattle.std.proofs.lemmas.List.{drop_all, append-nil}
use Rattle.std.specs.List.Sorted.{IsNonDecreasingBy}
use Rattle.policy_text_defs.specs.declared.test.Range.{Range}
use Rattle.packet_defs.specs.Test.{is_among}
use Rattle.packet_core.specs.Ranges.{low, high, values}
use Rattle.packet_core.proofs.RangeLaws.{running, running-lows, running-highs, running-more, running-same}
use Rattle.packet_core.proofs.ranges.lengthened.Goals as goal

pub loop-range-preserved : goal.loop-range-preserved
loop-range-preserved c =
    let d : Range = record { low = 0; high = 0 } in
    let rs = c.args.sorted.now in
    let i = c.loop-range.range-index in
    let x : Range = record { low = (get_or rs i d).low; high = c.max-greatest.result } in
    record {
      so = ap (λ (l : List Range). l ++ running c.max-greatest.result (drop (i + 1) rs)) c.in_ok-push.ensures.items
          ∙ ap (λ (n : ℕ). (c.loop-range.all.items ++ x ∷ []) ++ running n (drop (i + 1) rs)) c.max-greatest.ensures
          ∙ running-more c.loop-range.all.items rs i c.loop-range.greatest x d c.loop-range.invariant.so c.loop-range-test.true
          (ap (λ (n : ℕ). record { low = (get_or rs i d).low; high = n }) c.max-greatest.ensures);
    }

end : (c : goal.After-loop-range) → c.loop-range.all.items ≡ running 0 c.args.sorted.now
end c = sym (append-nil c.loop-range.all.items) ∙ ap (λ (l : List Range). c.loop-range.all.items ++ running c.loop-range.greatest l) (sym (drop_all c.loop-range.range-index c.args.sorted.now c.loop-range-test.false)) ∙ c.loop-range.invariant.so

pub invariant_of-result : goal.invariant_of-result
invariant_of-result c = record {
  lows = subst (λ (l : List Range). IsNonDecreasingBy low l) (sym (end c)) (running-lows c.args.sorted.now c.requires);
  highs = subst (λ (l : List Range). IsNonDecreasingBy high l) (sym (end c)) (running-highs c.args.sorted.now);
}

pub returns : goal.returns
returns c = λ v. ap (λ (l : List Range). is_among (values l) v) (end-1 c) ∙ running-same v c.args.sorted.now c.requires
  where
    end-1 : (c : goal.After-result-1) → c.loop-range.all.items ≡ running 0 c.args.sorted.now
    end-1 c = sym (append-nil c.loop-range.all.items) ∙ ap (λ (l : List Range). c.loop-range.all.items ++ running c.loop-range.greatest l) (sym (drop_all c.loop-range.range-index c.args.sorted.now c.loop-range-test.false)) ∙ c.loop-range.invariant.so
