use Rattle.summary_core.proofs.Prelude.{ℕ, length, ◌≡◌, ◌<◌, nat_cmp, list_at}
use Rattle.std.specs.List.Sorted.{IsPermutation, IsSorted}
use Rattle.summary_core.proofs.table.sort_lists.Given as goal

abbrev pub invariant-loop-index : goal.invariant-loop-index
invariant-loop-index l = record {
  same : (i : ℕ) → IsPermutation (list_at l.fn.lists.items i) (list_at l.lists.items i);
  sorted : (i : ℕ) → i < l.index → IsSorted nat_cmp (list_at l.lists.items i);
  many : length l.lists.items ≡ length l.fn.lists.items;
}
