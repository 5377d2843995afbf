-- Reading from the left, token by token: the value that a reader makes of a list of tokens, and the
-- tokens it leaves. It serves the proofs; laws in proofs/ show that it accepts exactly the forms of
-- Grammar and Statements.
use Rattle.std.specs.Prelude.{◌≡◌, refl, ℕ, zero, suc, nat_le, Bool, false, if◌then◌else◌, List, [], ◌∷◌, Option, Some, None, option_map, codes}
use Rattle.std.specs.Str.{bytes_eq}
use Rattle.rank_defs.specs.declared.expression.Op.{Op}
use Rattle.rank_defs.specs.declared.expression.Op.TheVariants as op
use Rattle.text_core.specs.declared.mark.Mark.{Mark}
use Rattle.text_core.specs.declared.mark.Mark.TheVariants as m
use Rattle.text_core.specs.Marks.{mark_text}
use Rattle.text_core.specs.Glyphs.{Glyph, text, figure, sign}
use Rattle.policy_text_defs.specs.declared.function.Function.{Function}
use Rattle.policy_text_defs.specs.declared.function.Function.TheVariants as function
use Rattle.policy_text_defs.specs.Words.{is_operand, function_of, passing}
use Rattle.policy_text_defs.specs.Phrase.{Phrase, number, word, two, negation, choice, depth, most_depth}
use Rattle.policy_text_defs.specs.Grammar.{product_op, sum_op, relation}

abbrev pub Outcome : Type 0 → Type 0
Outcome A = Option (A × List Glyph)

abbrev pub Reader : Type 0 → Type 0
Reader A = List Glyph → Outcome A

abbrev pub and_then : {A B : Type 0} → Outcome A → (A → Reader B) → Outcome B
and_then None f = None
and_then (Some p) f = f p.0 p.1

infixl 10 ◌>>=◌
abbrev pub ◌>>=◌ : {A B : Type 0} → Reader A → (A → Reader B) → Reader B
p >>= f = λ gs. and_then (p gs) f

infixl 10 ◌>>◌
abbrev pub ◌>>◌ : {A B : Type 0} → Reader A → Reader B → Reader B
p >> q = p >>= (λ _. q)

abbrev pub pure : {A : Type 0} → A → Reader A
pure a = λ gs. Some (a, gs)

abbrev pub refuse : {A : Type 0} → Reader A
refuse = λ gs. None

-- the value made of an option, or a default if there is none
abbrev pub pick : {A B : Type 0} → Option A → B → (A → B) → B
pick None other f = other
pick (Some x) other f = f x

-- the value made of a word that passed a test
abbrev pub given : {A : Type 0} → (List ℕ → A) → Option (List ℕ) → Reader A
given f None = refuse
given f (Some w) = pure (f w)

abbrev pub next : Reader Glyph
next [] = None
next (g ∷ gs) = Some (g, gs)

abbrev pub is_sign : Mark → Glyph → Bool
is_sign m (sign n) = bytes_eq (mark_text n) (mark_text m)
is_sign m _ = false

abbrev pub is_text : List ℕ → Glyph → Bool
is_text w (text v) = bytes_eq v w
is_text w _ = false

-- takes a token that passes the test
abbrev pub expect : (Glyph → Bool) → Reader (Unit {0})
expect test = next >>= (λ g. if test g then pure tt else refuse)

abbrev pub mark : Mark → Reader (Unit {0})
mark m = expect (is_sign m)

abbrev pub literal : List ℕ → Reader (Unit {0})
literal w = expect (is_text w)

abbrev pub with_rest : {A : Type 0} → List Glyph → Option A → Outcome A
with_rest gs found = option_map (λ a. (a, gs)) found

-- the value of the first token, if it has one, and the tokens after it
abbrev pub ahead : {A : Type 0} → (Glyph → Option A) → List Glyph → Outcome A
ahead test [] = None
ahead test (g ∷ gs) = with_rest gs (test g)

abbrev pub unit_if : Bool → Option (Unit {0})
unit_if b = if b then Some tt else None

-- ---- expressions

-- an expression of at most the greatest depth
unfoldable pub limited : Phrase → Reader Phrase
limited a = λ gs. if nat_le (depth a) most_depth then Some (a, gs) else None

-- goes on with operators and parts, at most N times, grouped from the left
unfoldable pub chain : (Glyph → Option Op) → Reader Phrase → ℕ → Phrase → Reader Phrase
chain op part zero a gs = pick (ahead op gs) (Some (a, gs)) (λ o. None)
chain op part (suc k) a gs =
    pick (ahead op gs) (Some (a, gs)) (λ o. (part >>= (λ b. limited (two o.0 a b) >>= chain op part k)) o.1)

unfoldable pub product : Reader Phrase → Reader Phrase
product atom = atom >>= chain product_op atom most_depth

unfoldable pub sum : Reader Phrase → Reader Phrase
sum atom = product atom >>= chain sum_op (product atom) most_depth

abbrev pub comparison : Reader Phrase → Phrase → Reader Phrase
comparison part a gs = pick (ahead relation gs) (Some (a, gs)) (λ o. (part >>= (λ b. limited (two o.0 a b))) o.1)

unfoldable pub expression : Reader Phrase → Reader Phrase
expression atom = sum atom >>= comparison (sum atom)

unfoldable pub operand : List ℕ → Reader Phrase
operand w = given word (passing is_operand w)

-- The given reader reads expressions inside one more pair of parentheses.
module _ (inside : Reader Phrase) where
  -- an expression up to a mark, and the mark
  unfoldable pub argument : Mark → Reader Phrase
  argument s = do
    a ← inside
    mark s
    pure a

  unfoldable pub call : Op → Reader Phrase
  call o = do
    mark m.Open
    a ← argument m.Comma
    b ← argument m.Close
    limited (two o a b)

  unfoldable pub opposite : Reader Phrase
  opposite = do
    mark m.Open
    a ← argument m.Close
    limited (negation a)

  unfoldable pub alternative : Reader Phrase
  alternative = do
    mark m.Open
    a ← argument m.Comma
    b ← argument m.Comma
    c ← argument m.Close
    limited (choice a b c)

  abbrev pub word_at : List ℕ → Option Function → Reader Phrase
  word_at w None = operand w
  word_at w (Some (function.Two o)) = call o
  word_at w (Some function.Not) = opposite
  word_at w (Some function.If) = alternative

  abbrev pub mark_at : Mark → Reader Phrase
  mark_at m.Open = argument m.Close
  mark_at _ = refuse

  abbrev pub atom_at : Glyph → Reader Phrase
  atom_at (figure n) = pure (number n)
  atom_at (text w) = word_at w (function_of w)
  atom_at (sign m) = mark_at m

-- The number says how many parentheses may be opened.
unfoldable pub atom : ℕ → Reader Phrase
atom zero = next >>= atom_at refuse
atom (suc room) = next >>= atom_at (expression (atom room))

abbrev pub inside : ℕ → Reader Phrase
inside zero = refuse
inside (suc room) = expression (atom room)

-- `*` goes before `+`, and both group from the left
products_before_sums :
    expression (atom 0) (text (codes "a") ∷ sign m.Minus ∷ text (codes "b") ∷ sign m.Star ∷ figure 2 ∷ sign m.Plus ∷ figure 3 ∷ [])
    ≡ Some (two op.Add (two op.Sub (word (codes "a")) (two op.Mul (word (codes "b")) (number 2))) (number 3), [])
unfolding expression sum product chain limited atom operand
products_before_sums = refl

-- only one comparison is read, and the tokens after it are left
a_comparison_ends : expression (atom 0) (figure 1 ∷ sign m.Less ∷ figure 2 ∷ sign m.Less ∷ figure 3 ∷ []) ≡ Some (two op.Less (number 1) (number 2), sign m.Less ∷ figure 3 ∷ [])
unfolding expression sum product chain limited atom operand
a_comparison_ends = refl

-- no parentheses may be opened
no_room : expression (atom 0) (sign m.Open ∷ figure 1 ∷ sign m.Close ∷ []) ≡ None
unfolding expression sum product chain limited atom operand argument
no_room = refl
