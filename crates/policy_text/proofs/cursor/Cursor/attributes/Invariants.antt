use Rattle.policy_text.proofs.Prelude.{length, Repeats, glyphs_of}
use Rattle.policy_text_defs.specs.Reading as spec
use Rattle.policy_text_defs.specs.StatementReading as forms
use Rattle.policy_text.proofs.cursor.Cursor.attributes.Given as goal

abbrev pub invariant-loop-attribute : goal.invariant-loop-attribute
invariant-loop-attribute l = Repeats (spec.ahead forms.attribute_at) forms.set_next (forms.attributes (glyphs_of l.fn.self.rest.now)) l.attrs (glyphs_of l.self.rest.now)

abbrev pub decreases-loop-attribute : goal.decreases-loop-attribute
decreases-loop-attribute l = length (glyphs_of l.self.rest.now)
