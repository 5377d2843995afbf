use Rattle.summary_core.proofs.Prelude.{◌≡◌, ◌≤◌, take, ◌*◌, ◌^◌, list_at, listed, count_to}
use Rattle.summary_core.proofs.delays.count_all.Given as goal

abbrev pub invariant-loop-place : goal.invariant-loop-place
invariant-loop-place l = record {
  count : l.count ≡ count_to l.bound (listed (list_at l.lists) (take l.place l.members));
  bound : l.count ≤ l.place * 2 ^ 64;
}
