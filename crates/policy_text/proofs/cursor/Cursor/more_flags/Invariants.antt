use Rattle.policy_text.proofs.Prelude.{length, Repeats, glyphs_of}
use Rattle.text_core.specs.declared.mark.Mark.TheVariants as m
use Rattle.policy_text_defs.specs.Reading as spec
use Rattle.policy_text_defs.specs.TestReading as tests
use Rattle.policy_text.proofs.cursor.Cursor.more_flags.Given as goal

abbrev pub invariant-loop-self : goal.invariant-loop-self
invariant-loop-self l = Repeats (spec.ahead (tests.sign_ahead m.Plus)) tests.flag_last (tests.flags_after l.fn.first (glyphs_of l.fn.self.rest.now)) l.flags (glyphs_of l.self.rest.now)

abbrev pub decreases-loop-self : goal.decreases-loop-self
decreases-loop-self l = length (glyphs_of l.self.rest.now)
