use Rattle.policy_text.proofs.Prelude.{length, Repeats, glyphs_of}
use Rattle.policy_text_defs.specs.Reading as spec
use Rattle.policy_text_defs.specs.StatementReading as forms
use Rattle.policy_text.proofs.cursor.Cursor.settings.Given as goal

abbrev pub invariant-loop-setting : goal.invariant-loop-setting
invariant-loop-setting l = Repeats (spec.ahead forms.setting_at) forms.setting_next (forms.settings (glyphs_of l.fn.self.rest.now)) l.given (glyphs_of l.self.rest.now)

abbrev pub decreases-loop-setting : goal.decreases-loop-setting
decreases-loop-setting l = length (glyphs_of l.self.rest.now)
