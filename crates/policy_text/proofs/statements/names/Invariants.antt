use Rattle.policy_text.proofs.Prelude.{length, Repeats, glyphs_of}
use Rattle.policy_text_defs.specs.Reading as spec
use Rattle.policy_text_defs.specs.StatementReading as forms
use Rattle.policy_text.proofs.statements.names.Given as goal

abbrev pub invariant-loop-name : goal.invariant-loop-name
invariant-loop-name l = Repeats (spec.ahead forms.name_ahead) forms.name_last (forms.names (glyphs_of l.fn.cursor.rest.now)) l.names (glyphs_of l.cursor.rest.now)

abbrev pub decreases-loop-name : goal.decreases-loop-name
decreases-loop-name l = length (glyphs_of l.cursor.rest.now)
