use Rattle.summary_core.proofs.Prelude.{ℕ, ◌≤◌, ◌<◌, ◌-◌, list_at, listed, count_to}
use Rattle.summary_core.proofs.delays.at_rank.Given as goal

abbrev pub invariant-loop-low : goal.invariant-loop-low
invariant-loop-low l = record {
  order : l.low ≤ l.high;
  enough : l.rank ≤ count_to l.high (listed (list_at l.lists) l.members);
  fewer : (lower : ℕ) → lower < l.low → count_to lower (listed (list_at l.lists) l.members) < l.rank;
}

abbrev pub decreases-loop-low : goal.decreases-loop-low
decreases-loop-low l = l.high - l.low
