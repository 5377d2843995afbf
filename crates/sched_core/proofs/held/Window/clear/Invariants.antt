use Rattle.sched_core.proofs.Prelude.{◌≡◌, ℕ, deque_len, packet_at, end_of}
use Rattle.sched_core.proofs.held.Window.clear.Given as goal

abbrev pub invariant-loop-self : goal.invariant-loop-self
invariant-loop-self l = record {
  packets : (n : ℕ) → packet_at l.self n ≡ packet_at l.initial.self n;
  end : end_of l.self ≡ end_of l.initial.self;
  filled : l.self.filled ≡ l.initial.self.filled;
}

abbrev pub decreases-loop-self : goal.decreases-loop-self
decreases-loop-self l = deque_len l.self.chunks
