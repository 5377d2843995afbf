-- The grammar of expressions, over complete lists of tokens.
use Rattle.std.specs.Prelude.{◌≡◌, refl, ℕ, zero, suc, ◌≤◌, true, List, [], ◌∷◌, ◌++◌, Option, Some, None, codes}
use Rattle.rank_defs.specs.declared.expression.Op.{Op}
use Rattle.rank_defs.specs.declared.expression.Op.TheVariants as op
use Rattle.text_core.specs.declared.mark.Mark.TheVariants as m
use Rattle.policy_text_defs.specs.Words.{is_name, is_variable}
use Rattle.text_core.specs.Glyphs.{Glyph, text, figure, sign}
use Rattle.policy_text_defs.specs.Phrase.{Phrase, number, word, two, negation, choice, depth, most_depth, most_open}

-- a relation between lists of tokens and the expressions that they spell
abbrev pub Form : Type 1
Form = List Glyph → Phrase → Type 0

-- `*` and `/`
abbrev pub product_op : Glyph → Option Op
product_op (sign m.Star) = Some op.Mul
product_op (sign m.Slash) = Some op.Div
product_op _ = None

-- `+` and `-`
abbrev pub sum_op : Glyph → Option Op
sum_op (sign m.Plus) = Some op.Add
sum_op (sign m.Minus) = Some op.Sub
sum_op _ = None

-- REL is `<  <=  ==  !=  >=  >`
abbrev pub relation : Glyph → Option Op
relation (sign m.Less) = Some op.Less
relation (sign m.LessEq) = Some op.LessEq
relation (sign m.Equal) = Some op.Equal
relation (sign m.NotEqual) = Some op.NotEqual
relation (sign m.MoreEq) = Some op.MoreEq
relation (sign m.More) = Some op.More
relation _ = None

-- { OP PART } after a term, grouped from the left
pub data GoesOn (op : Glyph → Option Op) (Part : Form) : Phrase → List Glyph → Phrase → Type 0 where
  ends : (a : Phrase) → GoesOn op Part a [] a
  more : (o : Op) (g : Glyph) (ts us : List Glyph) (a b c : Phrase) → op g ≡ Some o → Part ts b → GoesOn op Part (two o a b) us c → GoesOn op Part a (g ∷ ts ++ us) c

-- PART { OP PART }
pub data Grouped (op : Glyph → Option Op) (Part : Form) : List Glyph → Phrase → Type 0 where
  grouped : (ts us : List Glyph) (a c : Phrase) → Part ts a → GoesOn op Part a us c → Grouped op Part (ts ++ us) c

-- PRODUCT = ATOM { (* | /) ATOM }
abbrev pub Product : Form → Form
Product Atom = Grouped product_op Atom

-- SUM = PRODUCT { (+ | -) PRODUCT }
abbrev pub Sum : Form → Form
Sum Atom = Grouped sum_op (Product Atom)

-- PART [ REL PART ]
pub data Compared (Part : Form) : List Glyph → Phrase → Type 0 where
  alone : (ts : List Glyph) (a : Phrase) → Part ts a → Compared Part ts a
  compared : (o : Op) (g : Glyph) (ts us : List Glyph) (a b : Phrase) → relation g ≡ Some o → Part ts a → Part us b → Compared Part (ts ++ g ∷ us) (two o a b)

-- EXPR = SUM [ REL SUM ]
abbrev pub Expression : Form → Form
Expression Atom = Compared (Sum Atom)

-- how `min`, `max`, `and` and `or` are written
pub data Call : Op → List ℕ → Type 0 where
  min_call : Call op.Min (codes "min")
  max_call : Call op.Max (codes "max")
  and_call : Call op.And (codes "and")
  or_call : Call op.Or (codes "or")

-- a NAME, or one of the words `len`, `now`, `prio`, `weight`, `slack` and `rank`
pub data IsOperand (w : List ℕ) : Type 0 where
  named : is_name w ≡ true → IsOperand w
  variable : is_variable w ≡ true → IsOperand w

-- ATOM, given the form of an expression inside its parentheses:
-- NUMBER | NAME | len | now | prio | weight | slack | rank | ( EXPR )
-- | min(EXPR, EXPR) | max(EXPR, EXPR) | and(EXPR, EXPR) | or(EXPR, EXPR) | not(EXPR)
-- | if(EXPR, EXPR, EXPR)
pub data AtomOver (Inside : Form) : List Glyph → Phrase → Type 0 where
  number_atom : (n : ℕ) → AtomOver Inside (figure n ∷ []) (number n)
  word_atom : (w : List ℕ) → IsOperand w → AtomOver Inside (text w ∷ []) (word w)
  parens_atom : (ts : List Glyph) (a : Phrase) → Inside ts a → AtomOver Inside (sign m.Open ∷ ts ++ sign m.Close ∷ []) a
  call_atom : (o : Op) (w : List ℕ) (ts us : List Glyph) (a b : Phrase) → Call o w → Inside ts a → Inside us b → AtomOver Inside (text w ∷ sign m.Open ∷ ts ++ (sign m.Comma ∷ us ++ (sign m.Close ∷ []))) (two o a b)
  not_atom : (ts : List Glyph) (a : Phrase) → Inside ts a → AtomOver Inside (text (codes "not") ∷ sign m.Open ∷ ts ++ sign m.Close ∷ []) (negation a)
  if_atom : (ts us vs : List Glyph) (a b c : Phrase) → Inside ts a → Inside us b → Inside vs c → AtomOver Inside (text (codes "if") ∷ sign m.Open ∷ ts ++ (sign m.Comma ∷ us ++ (sign m.Comma ∷ vs ++ (sign m.Close ∷ [])))) (choice a b c)

-- no tokens form an expression
abbrev pub NoForm : Form
NoForm ts a = ⊥

-- an atom in which at most N parentheses are open at once
abbrev pub Atom : ℕ → Form
Atom zero = AtomOver NoForm
Atom (suc room) = AtomOver (Expression (Atom room))

-- all the tokens spell the expression, within the limits of depth and of open parentheses
pub record Spells (gs : List Glyph) (a : Phrase) : Type 0 where
  pub form : Expression (Atom most_open) gs a
  pub low : depth a ≤ most_depth

-- a name is a product by itself
a_name : (w : List ℕ) → is_name w ≡ true → Product (Atom 0) (text w ∷ []) (word w)
a_name w is = grouped (text w ∷ []) [] (word w) (word w) (word_atom w (named is)) (ends (word w))

-- `a - b - c` is (a - b) - c
minus_groups_from_the_left :
    Expression (Atom 0) (text (codes "a") ∷ sign m.Minus ∷ text (codes "b") ∷ sign m.Minus ∷ text (codes "c") ∷ [])
    (two op.Sub (two op.Sub (word (codes "a")) (word (codes "b"))) (word (codes "c")))
minus_groups_from_the_left =
    let a : Phrase = word (codes "a") in
    let b : Phrase = word (codes "b") in
    let c : Phrase = word (codes "c") in
    let all : Phrase = two op.Sub (two op.Sub a b) c in
    alone _ all (grouped (text (codes "a") ∷ []) (sign m.Minus ∷ text (codes "b") ∷ sign m.Minus ∷ text (codes "c") ∷ []) a all (a_name (codes "a") refl)
    (more op.Sub (sign m.Minus) (text (codes "b") ∷ []) (sign m.Minus ∷ text (codes "c") ∷ []) a b all refl (a_name (codes "b") refl)
    (more op.Sub (sign m.Minus) (text (codes "c") ∷ []) [] (two op.Sub a b) c all refl (a_name (codes "c") refl) (ends all))))
