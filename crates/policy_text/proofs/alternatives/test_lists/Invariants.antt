use Rattle.policy_text.proofs.Prelude.{length, codes, Repeats, glyphs_of}
use Rattle.text_core.specs.declared.mark.Mark.TheVariants as m
use Rattle.policy_text_defs.specs.Reading as spec
use Rattle.policy_text_defs.specs.StatementReading as forms
use Rattle.policy_text_defs.specs.TestReading as tests
use Rattle.policy_text.proofs.alternatives.test_lists.Given as goal

abbrev pub invariant-loop-alloc : goal.invariant-loop-alloc
invariant-loop-alloc l = Repeats (spec.ahead (forms.word_ahead (codes "or"))) (tests.part_last tests.tests) (tests.test_lists (glyphs_of l.fn.cursor.rest.now)) l.alternatives (glyphs_of l.cursor.rest.now)

abbrev pub decreases-loop-alloc : goal.decreases-loop-alloc
decreases-loop-alloc l = length (glyphs_of l.cursor.rest.now)
