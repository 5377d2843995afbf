use Rattle.policy_text.proofs.Prelude.{length, codes, Repeats, glyphs_of}
use Rattle.text_core.specs.declared.mark.Mark.TheVariants as m
use Rattle.policy_text_defs.specs.Reading as spec
use Rattle.policy_text_defs.specs.StatementReading as forms
use Rattle.policy_text_defs.specs.TestReading as tests
use Rattle.policy_text.proofs.alternatives.ranges_in_a_row.Given as goal

abbrev pub invariant-loop-field : goal.invariant-loop-field
invariant-loop-field l = Repeats (spec.ahead (tests.sign_ahead m.Comma)) (tests.part_last (tests.a_range l.fn.field)) (tests.separated (tests.sign_ahead m.Comma) (tests.a_range l.fn.field) (glyphs_of l.fn.cursor.rest.now)) l.ranges (glyphs_of l.cursor.rest.now)

abbrev pub decreases-loop-field : goal.decreases-loop-field
decreases-loop-field l = length (glyphs_of l.cursor.rest.now)
