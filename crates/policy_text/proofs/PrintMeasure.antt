-- The number of parts of a term, which decreases as its text is written.
use Rattle.policy_text.proofs.Prelude.{◌+◌, ℕ, Phrase, choice, negation, number, two, word}

abbrev pub parts : Phrase → ℕ
parts (number n) = 1
parts (word w) = 1
parts (negation a) = parts a + 1
parts (choice a b c) = parts a + parts b + parts c + 1
parts (two op a b) = parts a + parts b + 1
