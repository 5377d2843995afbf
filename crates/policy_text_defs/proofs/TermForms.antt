-- The tokens of the canonical text of a term spell the term.
use Rattle.policy_text_defs.proofs.Prelude.{List, ℕ, [], refl, ◌≡◌, ◌∷◌, Some, ◌++◌, subst, Bool, true, false, arith, ◌≤◌, suc, cond, zero, ◌<◌, append-nil, ◌||◌, Op, Add, Div, Equal, Less, LessEq, More, MoreEq, Mul, NotEqual, Sub, And, Max, Min, Or, Glyph, text, figure, sign, is_infix, is_infix_op, op_text, Atom, Expression, Form, GoesOn, IsOperand, Spells, alone, call_atom, compared, ends, grouped, if_atom, more, named, not_atom, number_atom, parens_atom, variable, word_atom, Call, and_call, max_call, min_call, or_call, product_op, relation, sum_op, Product, Sum, Phrase, two, choice, negation, number, word, depth, most_depth, most_open, HasOperands, is_name, is_operand, is_variable}
use Rattle.std.proofs.Common.{max}
use Rattle.text_core.specs.declared.mark.Mark.TheVariants as m
use Rattle.policy_text_defs.proofs.TermTokens.{wrapped_tokens, infix_tokens, call_tokens, tokens_of}

-- spelled within any large enough limit of parentheses: as a whole, and as an atom if not infix
pub record IsSpelled (a : Phrase) : Type 0 where
  pub whole : (room : ℕ) → depth a ≤ suc room → Expression (Atom room) (tokens_of a) a
  pub bare : is_infix a ≡ false → (room : ℕ) → depth a ≤ suc room → Atom room (tokens_of a) a

product_alone : {A : Form} (ts : List Glyph) (a : Phrase) → A ts a → Product A ts a
product_alone {A} ts a atom = subst (λ l. Product A l a) (append-nil ts) (grouped ts [] a a atom (ends a))

sum_alone : {A : Form} (ts : List Glyph) (a : Phrase) → A ts a → Sum A ts a
sum_alone {A} ts a atom = subst (λ l. Sum A l a) (append-nil ts) (grouped ts [] a a (product_alone ts a atom) (ends a))

whole_alone : {A : Form} (ts : List Glyph) (a : Phrase) → A ts a → Expression A ts a
whole_alone ts a atom = alone ts a (sum_alone ts a atom)

depth_some : (a : Phrase) → 0 < depth a
depth_some (number n) = omega arith
depth_some (word w) = omega arith
depth_some (negation a) = omega arith
depth_some (choice a b c) = omega arith
depth_some (two op a b) = omega arith

operand_case : (a : Phrase) → IsSpelled a → (v : Bool) → is_infix a ≡ v → (room : ℕ) → depth a ≤ room → Atom room (wrapped_tokens v (tokens_of a)) a
operand_case a s true is zero low = let some = depth_some a in absurd (omega arith)
operand_case a s true is (suc room) low = parens_atom (tokens_of a) a (s.whole room low)
operand_case a s false is room low = s.bare is room (omega arith)

operand : (a : Phrase) → IsSpelled a → (room : ℕ) → depth a ≤ room → Atom room (wrapped_tokens (is_infix a) (tokens_of a)) a
operand a s room low = operand_case a s (is_infix a) refl room low

-- one operator between two atoms
sum_whole : {A : Form} (op : Op) (g : Glyph) (ts us : List Glyph) (a b : Phrase) → sum_op g ≡ Some op → A ts a → A us b → Expression A (ts ++ g ∷ us) (two op a b)
sum_whole {A} op g ts us a b is left right =
    let tail : GoesOn sum_op (Product A) a (g ∷ us ++ []) (two op a b) = more op g us [] a b (two op a b) is (product_alone us b right) (ends (two op a b)) in
    alone _ _ (subst (λ l. Sum A (ts ++ g ∷ l) (two op a b)) (append-nil us) (grouped ts (g ∷ us ++ []) a (two op a b) (product_alone ts a left) tail))

product_whole : {A : Form} (op : Op) (g : Glyph) (ts us : List Glyph) (a b : Phrase) → product_op g ≡ Some op → A ts a → A us b → Expression A (ts ++ g ∷ us) (two op a b)
product_whole {A} op g ts us a b is left right =
    let tail : GoesOn product_op A a (g ∷ us ++ []) (two op a b) = more op g us [] a b (two op a b) is right (ends (two op a b)) in
    let product : Product A (ts ++ g ∷ us) (two op a b) = subst (λ l. Product A (ts ++ g ∷ l) (two op a b)) (append-nil us) (grouped ts (g ∷ us ++ []) a (two op a b) left tail) in
    alone _ _ (subst (λ l. Sum A l (two op a b)) (append-nil (ts ++ g ∷ us)) (grouped (ts ++ g ∷ us) [] (two op a b) (two op a b) product (ends (two op a b))))

relation_whole : {A : Form} (op : Op) (g : Glyph) (ts us : List Glyph) (a b : Phrase) → relation g ≡ Some op → A ts a → A us b → Expression A (ts ++ g ∷ us) (two op a b)
relation_whole op g ts us a b is left right = compared op g ts us a b is (sum_alone ts a left) (sum_alone us b right)

infix_whole : {A : Form} (op : Op) (ts us : List Glyph) (a b : Phrase) → is_infix_op op ≡ true → A ts a → A us b → Expression A (infix_tokens op ts us) (two op a b)
infix_whole Add ts us a b is left right = sum_whole Add (sign m.Plus) ts us a b refl left right
infix_whole Sub ts us a b is left right = sum_whole Sub (sign m.Minus) ts us a b refl left right
infix_whole Mul ts us a b is left right = product_whole Mul (sign m.Star) ts us a b refl left right
infix_whole Div ts us a b is left right = product_whole Div (sign m.Slash) ts us a b refl left right
infix_whole Less ts us a b is left right = relation_whole Less (sign m.Less) ts us a b refl left right
infix_whole LessEq ts us a b is left right = relation_whole LessEq (sign m.LessEq) ts us a b refl left right
infix_whole Equal ts us a b is left right = relation_whole Equal (sign m.Equal) ts us a b refl left right
infix_whole NotEqual ts us a b is left right = relation_whole NotEqual (sign m.NotEqual) ts us a b refl left right
infix_whole MoreEq ts us a b is left right = relation_whole MoreEq (sign m.MoreEq) ts us a b refl left right
infix_whole More ts us a b is left right = relation_whole More (sign m.More) ts us a b refl left right
infix_whole Min ts us a b is left right = absurd cc
infix_whole Max ts us a b is left right = absurd cc
infix_whole And ts us a b is left right = absurd cc
infix_whole Or ts us a b is left right = absurd cc

number_bare : (n room : ℕ) → Atom room (figure n ∷ []) (number n)
number_bare n zero = number_atom n
number_bare n (suc room) = number_atom n

operand_word : (w : List ℕ) (u v : Bool) → is_name w ≡ u → is_variable w ≡ v → u || v ≡ true → IsOperand w
operand_word w true v p q is = named p
operand_word w false true p q is = variable q
operand_word w false false p q is = absurd cc

pub IsOperand-from : (w : List ℕ) → is_operand w ≡ true → IsOperand w
IsOperand-from w is = operand_word w (is_name w) (is_variable w) refl refl is

name_bare : (w : List ℕ) (room : ℕ) → IsOperand w → Atom room (text w ∷ []) (word w)
name_bare w zero free = word_atom w free
name_bare w (suc room) free = word_atom w free

not_bare : (a : Phrase) → IsSpelled a → (room : ℕ) → suc (depth a) ≤ suc room → Atom room (tokens_of (negation a)) (negation a)
not_bare a s zero low = let some = depth_some a in absurd (omega arith)
not_bare a s (suc room) low = not_atom (tokens_of a) a (s.whole room (omega arith))

if_bare : (a b c : Phrase) → IsSpelled a → IsSpelled b → IsSpelled c → (room : ℕ) → suc (max (depth a) (max (depth b) (depth c))) ≤ suc room → Atom room (tokens_of (choice a b c)) (choice a b c)
if_bare a b c s t u zero low = let some = depth_some a in absurd (omega arith)
if_bare a b c s t u (suc room) low = if_atom (tokens_of a) (tokens_of b) (tokens_of c) a b c (s.whole room (omega arith)) (t.whole room (omega arith)) (u.whole room (omega arith))

function_word : (op : Op) → is_infix_op op ≡ false → Call op (op_text op)
function_word Add is = absurd cc
function_word Sub is = absurd cc
function_word Mul is = absurd cc
function_word Div is = absurd cc
function_word Less is = absurd cc
function_word LessEq is = absurd cc
function_word Equal is = absurd cc
function_word NotEqual is = absurd cc
function_word MoreEq is = absurd cc
function_word More is = absurd cc
function_word Min is = min_call
function_word Max is = max_call
function_word And is = and_call
function_word Or is = or_call

call_bare : (op : Op) (a b : Phrase) → IsSpelled a → IsSpelled b → is_infix_op op ≡ false → (room : ℕ) → suc (max (depth a) (depth b)) ≤ suc room → Atom room (call_tokens op (tokens_of a) (tokens_of b)) (two op a b)
call_bare op a b s t is zero low = let some = depth_some a in absurd (omega arith)
call_bare op a b s t is (suc room) low = call_atom op (op_text op) (tokens_of a) (tokens_of b) a b (function_word op is) (s.whole room (omega arith)) (t.whole room (omega arith))

two_whole : (op : Op) (a b : Phrase) → IsSpelled a → IsSpelled b → (v : Bool) → is_infix_op op ≡ v → (room : ℕ) → suc (max (depth a) (depth b)) ≤ suc room → Expression (Atom room) (cond v (infix_tokens op (wrapped_tokens (is_infix a) (tokens_of a)) (wrapped_tokens (is_infix b) (tokens_of b))) (call_tokens op (tokens_of a) (tokens_of b))) (two op a b)
two_whole op a b s t true is room low = infix_whole op _ _ a b is (operand a s room (omega arith)) (operand b t room (omega arith))
two_whole op a b s t false is room low = whole_alone _ _ (call_bare op a b s t is room low)

two_bare : (op : Op) (a b : Phrase) → IsSpelled a → IsSpelled b → (v : Bool) → is_infix_op op ≡ v → v ≡ false → (room : ℕ) → suc (max (depth a) (depth b)) ≤ suc room → Atom room (cond v (infix_tokens op (wrapped_tokens (is_infix a) (tokens_of a)) (wrapped_tokens (is_infix b) (tokens_of b))) (call_tokens op (tokens_of a) (tokens_of b))) (two op a b)
two_bare op a b s t true is bare room low = absurd cc
two_bare op a b s t false is bare room low = call_bare op a b s t is room low

pub is_spelled : (a : Phrase) → HasOperands a → IsSpelled a
is_spelled (number n) names = record { whole = λ room low. whole_alone _ _ (number_bare n room); bare = λ e room low. number_bare n room }
is_spelled (word w) names = record { whole = λ room low. whole_alone _ _ (name_bare w room (IsOperand-from w names)); bare = λ e room low. name_bare w room (IsOperand-from w names) }
is_spelled (negation a) names =
    let s = is_spelled a names in
    record { whole = λ room low. whole_alone _ _ (not_bare a s room low); bare = λ e room low. not_bare a s room low }
is_spelled (choice a b c) names =
    let s = is_spelled a names.0 in
    let t = is_spelled b names.1 in
    let u = is_spelled c names.2 in
    record { whole = λ room low. whole_alone _ _ (if_bare a b c s t u room low); bare = λ e room low. if_bare a b c s t u room low }
is_spelled (two op a b) names =
    let s = is_spelled a names.0 in
    let t = is_spelled b names.1 in
    record { whole = λ room low. two_whole op a b s t (is_infix_op op) refl room low; bare = λ e room low. two_bare op a b s t (is_infix_op op) refl e room low }

-- the tokens of the canonical text of a term spell it
pub tokens_of-Spells : (a : Phrase) → HasOperands a → depth a ≤ most_depth → Spells (tokens_of a) a
tokens_of-Spells a names low = record { form = (is_spelled a names).whole most_open (omega arith); low = low }
