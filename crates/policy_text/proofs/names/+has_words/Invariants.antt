use Rattle.policy_text.proofs.Prelude.{phrase_of}
use Rattle.policy_text.proofs.PrintMeasure.{parts}
use Rattle.policy_text.proofs.names.+has_words.Given as goal

abbrev pub decreases-has_words : goal.decreases-has_words
decreases-has_words l = parts (phrase_of l.term.now)
