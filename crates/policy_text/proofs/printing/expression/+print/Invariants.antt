use Rattle.policy_text.proofs.Prelude.{◌+◌, ◌*◌, phrase_of}
use Rattle.policy_text.proofs.PrintMeasure.{parts}
use Rattle.policy_text.proofs.printing.expression.+print.Given as goal

abbrev pub decreases-put_term : goal.decreases-put_term
decreases-put_term l = 2 * parts (phrase_of l.term.now)

abbrev pub decreases-put_operand : goal.decreases-put_operand
decreases-put_operand l = 2 * parts (phrase_of l.term.now) + 1

abbrev pub decreases-put_argument : goal.decreases-put_argument
decreases-put_argument l = 2 * parts (phrase_of l.term.now) + 1
