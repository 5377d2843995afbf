-- The tokens of the canonical text of a term.
use Rattle.policy_text_defs.proofs.Prelude.{List, [], ◌∷◌, ◌++◌, Bool, true, false, codes, if◌then◌else◌, Op, Add, Div, Equal, Less, LessEq, More, MoreEq, Mul, NotEqual, Sub, Glyph, text, figure, sign, Mark, is_infix, is_infix_op, op_text, Phrase, two, choice, negation, number, word}
use Rattle.text_core.specs.declared.mark.Mark.TheVariants as m

abbrev pub op_mark : Op → Mark
op_mark Add = m.Plus
op_mark Sub = m.Minus
op_mark Mul = m.Star
op_mark Div = m.Slash
op_mark Less = m.Less
op_mark LessEq = m.LessEq
op_mark Equal = m.Equal
op_mark NotEqual = m.NotEqual
op_mark MoreEq = m.MoreEq
op_mark More = m.More
op_mark _ = m.Comma

abbrev pub wrapped_tokens : Bool → List Glyph → List Glyph
wrapped_tokens true gs = sign m.Open ∷ gs ++ sign m.Close ∷ []
wrapped_tokens false gs = gs

abbrev pub call_tokens : Op → List Glyph → List Glyph → List Glyph
call_tokens op left right = text (op_text op) ∷ sign m.Open ∷ left ++ (sign m.Comma ∷ right ++ (sign m.Close ∷ []))

abbrev pub infix_tokens : Op → List Glyph → List Glyph → List Glyph
infix_tokens op left right = left ++ sign (op_mark op) ∷ right

abbrev pub tokens_of : Phrase → List Glyph
tokens_of (number n) = figure n ∷ []
tokens_of (word w) = text w ∷ []
tokens_of (negation a) = text (codes "not") ∷ sign m.Open ∷ tokens_of a ++ sign m.Close ∷ []
tokens_of (choice a b c) = text (codes "if") ∷ sign m.Open ∷ tokens_of a ++ (sign m.Comma ∷ tokens_of b ++ (sign m.Comma ∷ tokens_of c ++ (sign m.Close ∷ [])))
tokens_of (two op a b) =
    if is_infix_op op then infix_tokens op (wrapped_tokens (is_infix a) (tokens_of a)) (wrapped_tokens (is_infix b) (tokens_of b))
    else call_tokens op (tokens_of a) (tokens_of b)
