use Rattle.text_core.proofs.Prelude.{length, ◌-◌, Follow}
use Rattle.text_core.proofs.line.lines.Given as goal

abbrev pub invariant-loop-at : goal.invariant-loop-at
invariant-loop-at l = Follow l.text 0 l.found l.at

abbrev pub decreases-loop-at : goal.decreases-loop-at
decreases-loop-at l = length l.text - l.at
