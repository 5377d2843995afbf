use Rattle.text_core.proofs.Prelude.{length, ◌≤◌, ◌-◌, StandIn}
use Rattle.text_core.proofs.token.tokens_in.Given as goal

abbrev pub invariant-loop-at : goal.invariant-loop-at
invariant-loop-at l = record { stand : StandIn l.dialect l.line 0 l.found l.at; inside : l.at ≤ length l.line }

abbrev pub decreases-loop-at : goal.decreases-loop-at
decreases-loop-at l = length l.line - l.at
