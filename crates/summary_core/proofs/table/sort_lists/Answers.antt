use Rattle.summary_core.proofs.Prelude.{ℕ, arith, ◌≤◌, ◌∙◌, sym, ◌<◌, subst, inl, inr, cases_order, IsPermutation-trans, nat_cmp, list_at}
use Rattle.std.specs.List.Sorted.{IsSorted}
use Rattle.summary_core.proofs.Tables.{none_past}
use Rattle.summary_core.proofs.table.sort_lists.Goals as goal

pub loop-index-preserved : goal.loop-index-preserved
loop-index-preserved c =
    let old = c.loop-index.lists.items in
    let new = c.sort_at.new.lists.items in
    let index = c.loop-index.index in
    let kept : (i : ℕ) → i < index → IsSorted nat_cmp (list_at new i) =
    λ i less. subst (IsSorted nat_cmp) (sym (c.sort_at.ensures.others i (λ e. omega (arith, e, less)))) (c.loop-index.invariant.sorted i less) in
    record {
      same = λ i. IsPermutation-trans _ _ _ (c.loop-index.invariant.same i) (c.sort_at.ensures.same i);
      sorted = λ i less. elim (cases_order i index) [
        | inl e ↦ subst (λ k. IsSorted nat_cmp (list_at new k)) (sym e) c.sort_at.ensures.sorted
        | inr (inl below) ↦ kept i below
        | inr (inr above) ↦ absurd (omega (arith, less, above))
      ];
      many = c.sort_at.ensures.many ∙ c.loop-index.invariant.many;
    }

pub returns-clause-sorted : goal.returns-clause-sorted
returns-clause-sorted c = λ i. elim (cases_order i c.loop-index.index) [
  | inl e ↦ past i (omega (arith, e))
  | inr (inl below) ↦ c.loop-index.invariant.sorted i below
  | inr (inr above) ↦ past i (omega (arith, above))
]
  where
    past : (i : ℕ) → c.loop-index.index ≤ i → IsSorted nat_cmp (list_at c.loop-index.lists.items i)
    past i most = subst (IsSorted nat_cmp) (sym (none_past c.loop-index.lists.items i (omega (arith, most, c.loop-index.invariant.many, c.loop-index-test.false, c.len-index-end.ensures)))) (λ k d least next. absurd (omega (arith, next)))
