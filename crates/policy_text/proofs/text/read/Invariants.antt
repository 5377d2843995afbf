use Rattle.std.proofs.Common.{◌≡◌}
use Rattle.policy_text.proofs.TextSteps.{SoFar}
use Rattle.policy_text.proofs.text.read.Given as goal

abbrev pub invariant-loop-line : goal.invariant-loop-line
invariant-loop-line l = (l.number ≡ l.line-index) × SoFar l.fn.latest l.text l.line-index l.held l.mode
