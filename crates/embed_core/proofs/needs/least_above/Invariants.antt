use Rattle.embed_core.proofs.Prelude.{◌≡◌, ℕ, ◌≤◌, ◌-◌, carried, FitsBelow, enough, levels_of}
use Rattle.embed_core.proofs.needs.least_above.Given as goal

abbrev pub invariant-loop-carried : goal.invariant-loop-carried
invariant-loop-carried l = record {
  counted : l.carried ≡ carried (levels_of l.target) l.needs l.height;
  least : (m : ℕ) → FitsBelow (levels_of l.target) l.needs m → l.height ≤ m;
}

abbrev pub decreases-loop-carried : goal.decreases-loop-carried
decreases-loop-carried l = enough l.needs - l.height
