use Rattle.summary_core.proofs.Prelude.{ℕ, length, ◌≡◌, stamp_in}
use Rattle.summary_core.proofs.timestamps.Timestamps.trim.Given as goal

abbrev pub invariant-loop-first : goal.invariant-loop-first
invariant-loop-first l = (n : ℕ) → stamp_in l.self n ≡ stamp_in l.fn.self n

abbrev pub decreases-loop-first : goal.decreases-loop-first
decreases-loop-first l = length l.self.slots.items
