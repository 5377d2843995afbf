use Rattle.summary_core.proofs.Prelude.{length, ◌≡◌, ◌≤◌, take, ◌*◌, ◌^◌, list_at, listed}
use Rattle.summary_core.proofs.delays.total.Given as goal

abbrev pub invariant-loop-place : goal.invariant-loop-place
invariant-loop-place l = record {
  count : l.count ≡ length (listed (list_at l.lists) (take l.place l.members));
  bound : l.count ≤ l.place * 2 ^ 64;
}
