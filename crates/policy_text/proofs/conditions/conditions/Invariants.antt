use Rattle.policy_text.proofs.Prelude.{length, codes, Repeats, glyphs_of}
use Rattle.policy_text_defs.specs.Reading as spec
use Rattle.policy_text_defs.specs.StatementReading as forms
use Rattle.policy_text.proofs.conditions.conditions.Given as goal

abbrev pub invariant-loop-conditions : goal.invariant-loop-conditions
invariant-loop-conditions l = Repeats (spec.ahead (forms.word_ahead (codes "and"))) forms.condition_last (forms.conditions (glyphs_of l.fn.cursor.rest.now)) l.conditions (glyphs_of l.cursor.rest.now)

abbrev pub decreases-loop-conditions : goal.decreases-loop-conditions
decreases-loop-conditions l = length (glyphs_of l.cursor.rest.now)
