-- Expressions without their location in memory.
use Rattle.std.specs.Prelude.{◌≡◌, refl, ℕ, suc, max, List, codes}
use Rattle.rank_defs.specs.declared.expression.Op.{Op}
use Rattle.rank_defs.specs.declared.expression.Op.TheVariants as op
use Rattle.rank_defs.specs.Shapes.{max_depth}
use Rattle.policy_text_defs.specs.declared.term.Term.{Term}
use Rattle.policy_text_defs.specs.declared.term.Term.TheVariants.{Number, Word, Two', Not', If'}

pub data Phrase : Type 0 where
  number : ℕ → Phrase
  word : List ℕ → Phrase
  two : Op → Phrase → Phrase → Phrase
  negation : Phrase → Phrase
  choice : Phrase → Phrase → Phrase → Phrase

abbrev pub phrase_of : Term → Phrase
phrase_of (Number n) = number n
phrase_of (Word w) = word w
phrase_of (Two' op p a q b) = two op (phrase_of a) (phrase_of b)
phrase_of (Not' p a) = negation (phrase_of a)
phrase_of (If' p a q b r c) = choice (phrase_of a) (phrase_of b) (phrase_of c)

-- 1 for a number or word, otherwise 1 more than the greatest depth of the parts
abbrev pub depth : Phrase → ℕ
depth (number n) = 1
depth (word w) = 1
depth (two op a b) = suc (max (depth a) (depth b))
depth (negation a) = suc (depth a)
depth (choice a b c) = suc (max (depth a) (max (depth b) (depth c)))

-- the greatest depth of an expression, and the greatest number of parentheses that are open at once
abbrev pub most_depth : ℕ
most_depth = max_depth

abbrev pub most_open : ℕ
most_open = 64

-- a number or word has depth 1, and the deepest part decides
depth_of_a_sum : depth (two op.Add (word (codes "len")) (two op.Mul (number 2) (word (codes "vt")))) ≡ 3
depth_of_a_sum = refl

depth_of_a_choice : depth (choice (negation (number 1)) (number 0) (word (codes "len"))) ≡ 3
depth_of_a_choice = refl
