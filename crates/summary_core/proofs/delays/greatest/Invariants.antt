use Rattle.summary_core.proofs.Prelude.{◌≤◌, take, All, list_at, listed}
use Rattle.summary_core.proofs.delays.greatest.Given as goal

abbrev pub invariant-loop-place : goal.invariant-loop-place
invariant-loop-place l = All (λ delay. delay ≤ l.greatest) (listed (list_at l.lists) (take l.place l.members))
