use Rattle.policy_text.proofs.Prelude.{◌+◌, ◌*◌, ◌-◌, phrase_of, glyphs_of}
use Rattle.policy_text_defs.specs.Grammar as grammar
use Rattle.policy_text_defs.specs.Reading as spec
use Rattle.policy_text_defs.proofs.ChainLemmas.{TurnsOn}
use Rattle.policy_text.proofs.parser.+expression.Given as goal

abbrev pub decreases-inside : goal.decreases-inside
decreases-inside l = 8 * l.room

abbrev pub decreases-call : goal.decreases-call
decreases-call l = 8 * l.room + 2

abbrev pub decreases-opposite : goal.decreases-opposite
decreases-opposite l = 8 * l.room + 2

abbrev pub decreases-alternative : goal.decreases-alternative
decreases-alternative l = 8 * l.room + 2

abbrev pub decreases-argument : goal.decreases-argument
decreases-argument l = 8 * l.room + 1

abbrev pub decreases-word_atom : goal.decreases-word_atom
decreases-word_atom l = 8 * l.room + 3

abbrev pub decreases-atom : goal.decreases-atom
decreases-atom l = 8 * l.room + 4

abbrev pub decreases-product : goal.decreases-product
decreases-product l = 8 * l.room + 5

abbrev pub decreases-sum : goal.decreases-sum
decreases-sum l = 8 * l.room + 6

abbrev pub decreases-expression : goal.decreases-expression
decreases-expression l = 8 * l.room + 7

abbrev pub invariant-product-loop-op : goal.invariant-product-loop-op
invariant-product-loop-op l = TurnsOn grammar.product_op (spec.atom l.room) (spec.product (spec.atom l.room) (glyphs_of l.fn.cursor.rest.now)) (phrase_of l.left.term) (glyphs_of l.cursor.rest.now)

abbrev pub decreases-product-loop-op : goal.decreases-product-loop-op
decreases-product-loop-op l = 64 - l.left.depth

abbrev pub invariant-sum-loop-op : goal.invariant-sum-loop-op
invariant-sum-loop-op l = TurnsOn grammar.sum_op (spec.product (spec.atom l.room)) (spec.sum (spec.atom l.room) (glyphs_of l.fn.cursor.rest.now)) (phrase_of l.left.term) (glyphs_of l.cursor.rest.now)

abbrev pub decreases-sum-loop-op : goal.decreases-sum-loop-op
decreases-sum-loop-op l = 64 - l.left.depth
