use Rattle.summary_core.proofs.Prelude.{ℕ, length, ◌≡◌, take, IfSome, map, slice_get, AreFigures, part_at}
use Rattle.summary_core.proofs.groups.labelled.Given as goal

abbrev pub invariant-loop-index : goal.invariant-loop-index
invariant-loop-index l = record {
  labels : map (λ g. g.label) l.groups.items ≡ take l.index l.labels;
  figures : (i : ℕ) → IfSome (slice_get l.groups.items i) (λ g. AreFigures l.summary (part_at l.kind i) g.figures);
  count : length l.groups.items ≡ l.index;
}
