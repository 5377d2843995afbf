use Rattle.sched_core.proofs.Prelude.{◌≡◌, ℕ, ◌+◌, ◌-◌, deque_len, packet_at, end_of}
use Rattle.sched_core.proofs.held.Window.lengthen.Given as goal

abbrev pub invariant-loop-self : goal.invariant-loop-self
invariant-loop-self l = record {
  packets : (n : ℕ) → packet_at l.self n ≡ packet_at l.fn.self n;
  end : end_of l.self ≡ end_of l.fn.self;
}

abbrev pub decreases-loop-self : goal.decreases-loop-self
decreases-loop-self l = l.last + 1 - (l.self.first + deque_len l.self.chunks)
