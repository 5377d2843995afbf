use Rattle.sched_core.proofs.Prelude.{◌≡◌, ℕ, held_at, end_of}
use Rattle.sched_core.proofs.held.Held.move_outliers.Given as goal

abbrev pub invariant-loop-packet : goal.invariant-loop-packet
invariant-loop-packet l = record {
  held : (n : ℕ) → held_at l.self n ≡ held_at l.fn.self n;
  end : end_of l.self.window ≡ end_of l.fn.self.window;
}

abbrev pub decreases-loop-packet : goal.decreases-loop-packet
decreases-loop-packet l = l.self.window.filled
