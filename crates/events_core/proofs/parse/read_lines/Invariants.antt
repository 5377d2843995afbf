use Rattle.std.proofs.Common.{length, ◌-◌}
use Rattle.events_core.proofs.ScriptLaws.{IsRead}
use Rattle.events_core.proofs.parse.read_lines.Given as goal

abbrev pub invariant-loop-at : goal.invariant-loop-at
invariant-loop-at l = IsRead l.text l.at l.steps l.counted l.number

abbrev pub decreases-loop-at : goal.decreases-loop-at
decreases-loop-at l = length l.text - l.at
