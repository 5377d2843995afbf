use Rattle.summary_core.proofs.Prelude.{length, ◌≡◌, ◌+◌, drop, shares, squares, total}
use Rattle.summary_core.proofs.fairness.fairness_of.Given as goal

abbrev pub invariant-loop-leaf : goal.invariant-loop-leaf
invariant-loop-leaf l = record {
  count : l.totals.count + length (shares (drop l.leaf-index l.leaves)) ≡ length (shares l.leaves);
  sum : l.totals.sum + total (shares (drop l.leaf-index l.leaves)) ≡ total (shares l.leaves);
  squares : l.totals.squares + squares (shares (drop l.leaf-index l.leaves)) ≡ squares (shares l.leaves);
}
