use Rattle.sched_core.proofs.Prelude.{◌≡◌, ℕ, length, ◌<◌, ◌≤◌, get_or, false, ◌%◌, stands_at, Slot}
use Rattle.sched_core.proofs.chunk.Chunk.take.Given as goal

abbrev pub invariant-loop-i : goal.invariant-loop-i
invariant-loop-i l = record {
  within : l.i ≤ length l.self.slots.items;
  same : l.self.slots.items ≡ l.initial.self.slots.items;
  base : l.self.base ≡ l.initial.self.base;
  behind : (k : ℕ) (d : Slot) → l.i ≤ k → k < length l.self.slots.items → stands_at (l.number % 64) (get_or l.self.slots.items k d) ≡ false;
}

abbrev pub decreases-loop-i : goal.decreases-loop-i
decreases-loop-i l = l.i
