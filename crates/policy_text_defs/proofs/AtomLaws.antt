-- Comparisons and atoms: the reader accepts exactly the grammar.
use Rattle.policy_text_defs.proofs.Prelude.{List, ℕ, [], refl, ◌≡◌, ◌∷◌, Some, ◌++◌, subst, Bool, true, false, sym, None, arith, codes, ◌≤◌, ◌∙◌, Option, ap, suc, zero, append_assoc, ◌||◌, Op, Glyph, text, figure, sign, Mark, Atom, Expression, Form, IsOperand, alone, call_atom, compared, if_atom, named, not_atom, number_atom, parens_atom, variable, word_atom, AtomOver, Call, Compared, NoForm, and_call, max_call, min_call, or_call, product_op, relation, sum_op, Phrase, two, choice, negation, number, word, depth, most_depth, most_open, ahead, pick, pure, Reader, ◌>>=◌, refuse, atom_at, given, mark, next, comparison, mark_at, word_at, is_name, is_variable, some_if, function_of}
use Rattle.std.proofs.Common.{max}
use Rattle.rank_defs.specs.declared.expression.Op.TheVariants as op
use Rattle.text_core.specs.declared.mark.Mark.TheVariants as m
use Rattle.policy_text_defs.specs.declared.function.Function.{Function}
use Rattle.policy_text_defs.specs.declared.function.Function.TheVariants as f
use Rattle.policy_text_defs.specs.Reading.{limited, operand, argument, call, opposite, alternative, expression, product, sum, atom}
use Rattle.policy_text_defs.proofs.GrammarLaws.{Exact, Begins, low_along, limited_low, passed, Grouped-exact}
use Rattle.policy_text_defs.proofs.StepLaws.{steps, same_value, same_rest, stands, ahead_at, marked, in_table}

module _ {Part : Form} {PartEnds : List Glyph → Type 0} {read : Reader Phrase} (exact : Exact Part PartEnds read) where
  compared_again : ((g : Glyph) (o : Op) (gs : List Glyph) → relation g ≡ Some o → PartEnds (g ∷ gs)) → (ts rest : List Glyph) (c : Phrase) → Compared Part ts c → depth c ≤ most_depth → PartEnds rest × (ahead relation rest ≡ None) → (read >>= comparison read) (ts ++ rest) ≡ Some (c, rest)
  compared_again stop ts rest c (alone _ _ part) low end = rw (exact.again ts rest c part low end.0, end.1) refl
  compared_again stop ts rest c (compared o g us vs a b is left right) low end =
      let deeper : depth c ≡ suc (max (depth a) (depth b)) = refl in
      let left_low : depth a ≤ most_depth = omega arith in
      let right_low : depth b ≤ most_depth = omega arith in
      let first : read ((us ++ g ∷ vs) ++ rest) ≡ Some (a, g ∷ (vs ++ rest)) = ap read (append_assoc us (g ∷ vs) rest) ∙ exact.again us (g ∷ (vs ++ rest)) a left left_low (stop g o (vs ++ rest) is) in
      let second = exact.again vs rest b right right_low end.0 in
      rw (first, ahead_at relation g (vs ++ rest) o is, second, limited_low (two o a b) rest low) refl

  compared_case : (gs left rest : List Glyph) (a c : Phrase) (found : Option (Op × List Glyph)) → Begins Part gs a left → ahead relation left ≡ found → pick found (pure a left) (λ o. (read >>= (λ b. limited (two o.0 a b))) o.1) ≡ Some (c, rest) → Begins (Compared Part) gs c rest
  compared_case gs left rest a c None first is e =
      let same : a ≡ c = ap (λ v. pick v a (λ p. p.0)) e in
      let over : left ≡ rest = ap (λ v. pick v left (λ p. p.1)) e in
      record { front = first.front; split = first.split ∙ ap (λ l. first.front ++ l) over; is = subst (Compared Part first.front) same (alone first.front a first.is); low = low_along a c same first.low }
  compared_case gs left rest a c (Some p) first is e =
      let stand = stands relation left p.1 p.0 is in
      let both = steps (read p.1) (λ b. limited (two p.0 a b)) c rest e in
      let second = exact.sound p.1 both.left both.value both.read in
      let pass = passed (two p.0 a both.value) c both.left rest both.next in
      let right : p.1 ≡ second.front ++ rest = second.split ∙ ap (λ l. second.front ++ l) pass.left in
      let behind : left ≡ (stand.glyph ∷ second.front) ++ rest = stand.split ∙ ap (λ l. stand.glyph ∷ l) right in
      record { front = first.front ++ stand.glyph ∷ second.front; split = first.split ∙ ap (λ l. first.front ++ l) behind ∙ sym (append_assoc first.front (stand.glyph ∷ second.front) rest); is = subst (Compared Part (first.front ++ stand.glyph ∷ second.front)) pass.same (compared p.0 stand.glyph first.front second.front a both.value stand.is first.is second.is); low = low_along (two p.0 a both.value) c pass.same pass.low }

  compared_sound : (gs rest : List Glyph) (c : Phrase) → (read >>= comparison read) gs ≡ Some (c, rest) → Begins (Compared Part) gs c rest
  compared_sound gs rest c e =
      let both = steps (read gs) (comparison read) c rest e in
      compared_case gs both.left rest both.value c (ahead relation both.left) (exact.sound gs both.left both.value both.read) refl both.next

  pub Compared-exact : ((g : Glyph) (o : Op) (gs : List Glyph) → relation g ≡ Some o → PartEnds (g ∷ gs)) → Exact (Compared Part) (λ rest. PartEnds rest × (ahead relation rest ≡ None)) (read >>= comparison read)
  Compared-exact stop = record { sound = compared_sound; again = compared_again stop }

-- ---- words in expressions

-- how a function is written
abbrev function_word : Function → List ℕ → Type 0
function_word (f.Two o) w = Call o w
function_word f.Not w = w ≡ codes "not"
function_word f.If w = w ≡ codes "if"

function_is : (w : List ℕ) (k : Function) → function_of w ≡ Some k → function_word k w
function_is w k e =
    let P : Function → Type 0 = λ k. function_word k w in
    in_table P w (codes "min") (f.Two op.Min) k _ (λ s. subst (Call op.Min) (sym s) min_call)
    (in_table P w (codes "max") (f.Two op.Max) k _ (λ s. subst (Call op.Max) (sym s) max_call)
    (in_table P w (codes "and") (f.Two op.And) k _ (λ s. subst (Call op.And) (sym s) and_call)
    (in_table P w (codes "or") (f.Two op.Or) k _ (λ s. subst (Call op.Or) (sym s) or_call)
    (in_table P w (codes "not") f.Not k _ (λ s. s)
    (in_table P w (codes "if") f.If k _ (λ s. s)
    (λ none. absurd cc)))))) e

call_reads : (o : Op) (w : List ℕ) → Call o w → function_of w ≡ Some (f.Two o)
call_reads o w min_call = refl
call_reads o w max_call = refl
call_reads o w and_call = refl
call_reads o w or_call = refl

call_is_no_operand : (o : Op) (w : List ℕ) → Call o w → IsOperand w → ⊥
call_is_no_operand o w min_call (named is) = absurd cc
call_is_no_operand o w min_call (variable is) = absurd cc
call_is_no_operand o w max_call (named is) = absurd cc
call_is_no_operand o w max_call (variable is) = absurd cc
call_is_no_operand o w and_call (named is) = absurd cc
call_is_no_operand o w and_call (variable is) = absurd cc
call_is_no_operand o w or_call (named is) = absurd cc
call_is_no_operand o w or_call (variable is) = absurd cc

not_is_no_operand : IsOperand (codes "not") → ⊥
not_is_no_operand (named is) = absurd cc
not_is_no_operand (variable is) = absurd cc

if_is_no_operand : IsOperand (codes "if") → ⊥
if_is_no_operand (named is) = absurd cc
if_is_no_operand (variable is) = absurd cc

function_is_no_operand : (k : Function) (w : List ℕ) → function_word k w → IsOperand w → ⊥
function_is_no_operand (f.Two o) w is operand = call_is_no_operand o w is operand
function_is_no_operand f.Not w is operand = not_is_no_operand (subst IsOperand is operand)
function_is_no_operand f.If w is operand = if_is_no_operand (subst IsOperand is operand)

no_function : (w : List ℕ) (found : Option Function) → function_of w ≡ found → IsOperand w → found ≡ None
no_function w None is operand = refl
no_function w (Some k) is operand = absurd (function_is_no_operand k w (function_is w k is) operand)

or_true : (u v : Bool) → v ≡ true → (u || v) ≡ true
or_true true v is = refl
or_true false v is = is

operand_reads : (w : List ℕ) (gs : List Glyph) → IsOperand w → operand w gs ≡ Some (word w, gs)
unfolding operand
operand_reads w gs (named is) = rw is refl
operand_reads w gs (variable is) = rw (or_true (is_name w) (is_variable w) is) refl

-- an operand was read
record Operand (w : List ℕ) (c : Phrase) (gs rest : List Glyph) : Type 0 where
  is : IsOperand w
  same : word w ≡ c
  over : gs ≡ rest

operand_case : (u v : Bool) (w : List ℕ) (c : Phrase) (gs rest : List Glyph) → is_name w ≡ u → is_variable w ≡ v → given word (some_if (u || v) w) gs ≡ Some (c, rest) → Operand w c gs rest
operand_case true v w c gs rest p q e = record { is = named p; same = same_value (word w) c gs rest e; over = same_rest (word w) c gs rest e }
operand_case false true w c gs rest p q e = record { is = variable q; same = same_value (word w) c gs rest e; over = same_rest (word w) c gs rest e }
operand_case false false w c gs rest p q e = absurd cc

operand_was : (w : List ℕ) (c : Phrase) (gs rest : List Glyph) → operand w gs ≡ Some (c, rest) → Operand w c gs rest
unfolding operand
operand_was w c gs rest e = operand_case (is_name w) (is_variable w) w c gs rest refl refl e

-- ---- atoms, given a reader for the expressions inside parentheses

module _ {Inside : Form} {InsideEnds : List Glyph → Type 0} {reads : Reader Phrase} (exact : Exact Inside InsideEnds reads) where
  -- a form before a mark is read up to the mark
  before_mark : (s : Mark) → ((gs : List Glyph) → InsideEnds (sign s ∷ gs)) → (us vs rest : List Glyph) (a : Phrase) → Inside us a → depth a ≤ most_depth → reads ((us ++ sign s ∷ vs) ++ rest) ≡ Some (a, sign s ∷ (vs ++ rest))
  before_mark s ends us vs rest a part low = ap reads (append_assoc us (sign s ∷ vs) rest) ∙ exact.again us (sign s ∷ (vs ++ rest)) a part low (ends (vs ++ rest))

  atom_again : ((gs : List Glyph) → InsideEnds (sign m.Close ∷ gs)) → ((gs : List Glyph) → InsideEnds (sign m.Comma ∷ gs)) → (ts rest : List Glyph) (c : Phrase) → AtomOver Inside ts c → depth c ≤ most_depth → Unit {0} → (next >>= atom_at reads) (ts ++ rest) ≡ Some (c, rest)
  unfolding argument call opposite alternative
  atom_again close comma ts rest c (number_atom n) low end = refl
  atom_again close comma ts rest c (word_atom w is) low end = rw (no_function w (function_of w) refl is) (operand_reads w rest is)
  atom_again close comma ts rest c (parens_atom us a part) low end = rw (before_mark m.Close close us [] rest c part low) refl
  atom_again close comma ts rest c (not_atom us a part) low end =
      let deeper : depth c ≡ suc (depth a) = refl in
      let part_low : depth a ≤ most_depth = omega arith in
      rw (before_mark m.Close close us [] rest a part part_low, limited_low (negation a) rest low) refl
  atom_again close comma ts rest c (call_atom o w us vs a b is left right) low end =
      let deeper : depth c ≡ suc (max (depth a) (depth b)) = refl in
      let left_low : depth a ≤ most_depth = omega arith in
      let right_low : depth b ≤ most_depth = omega arith in
      rw (call_reads o w is, before_mark m.Comma comma us (vs ++ sign m.Close ∷ []) rest a left left_low, before_mark m.Close close vs [] rest b right right_low, limited_low (two o a b) rest low) refl
  atom_again close comma ts rest c (if_atom us vs ws a b d first second third) low end =
      let deeper : depth c ≡ suc (max (depth a) (max (depth b) (depth d))) = refl in
      let first_low : depth a ≤ most_depth = omega arith in
      let second_low : depth b ≤ most_depth = omega arith in
      let third_low : depth d ≤ most_depth = omega arith in
      rw (before_mark m.Comma comma us (vs ++ (sign m.Comma ∷ ws ++ sign m.Close ∷ [])) rest a first first_low, before_mark m.Comma comma vs (ws ++ sign m.Close ∷ []) rest b second second_low, before_mark m.Close close ws [] rest d third third_low, limited_low (choice a b d) rest low) refl

  parens_sound : (gs rest : List Glyph) (c : Phrase) → argument reads m.Close gs ≡ Some (c, rest) → Begins (AtomOver Inside) (sign m.Open ∷ gs) c rest
  unfolding argument
  parens_sound gs rest c e =
      let first = steps (reads gs) (λ a. mark m.Close >>= (λ _. pure a)) c rest e in
      let second = steps (mark m.Close first.left) (λ _. pure first.value) c rest first.next in
      let part = exact.sound gs first.left first.value first.read in
      let closed = marked m.Close first.left second.left second.value second.read in
      let same : first.value ≡ c = same_value first.value c second.left rest second.next in
      let over : second.left ≡ rest = same_rest first.value c second.left rest second.next in
      let split : gs ≡ (part.front ++ sign m.Close ∷ []) ++ rest = part.split ∙ ap (λ l. part.front ++ l) (closed ∙ ap (λ l. sign m.Close ∷ l) over) ∙ sym (append_assoc part.front (sign m.Close ∷ []) rest) in
      record { front = sign m.Open ∷ part.front ++ sign m.Close ∷ []; split = ap (λ l. sign m.Open ∷ l) split; is = subst (AtomOver Inside (sign m.Open ∷ part.front ++ sign m.Close ∷ [])) same (parens_atom part.front first.value part.is); low = low_along first.value c same part.low }

  -- ---- arguments

  -- an expression up to a mark
  record Argument (s : Mark) (gs left : List Glyph) (a : Phrase) : Type 0 where
    front : List Glyph
    split : gs ≡ front ++ sign s ∷ left
    is : Inside front a

  argued : (s : Mark) (gs left : List Glyph) (a : Phrase) → argument reads s gs ≡ Some (a, left) → Argument s gs left a
  unfolding argument
  argued s gs left a e =
      let first = steps (reads gs) (λ b. mark s >>= (λ _. pure b)) a left e in
      let second = steps (mark s first.left) (λ _. pure first.value) a left first.next in
      let part = exact.sound gs first.left first.value first.read in
      let closed = marked s first.left second.left second.value second.read in
      let over : second.left ≡ left = same_rest first.value a second.left left second.next in
      let same : first.value ≡ a = same_value first.value a second.left left second.next in
      record { front = part.front; split = part.split ∙ ap (λ l. part.front ++ l) (closed ∙ ap (λ l. sign s ∷ l) over); is = subst (Inside part.front) same part.is }

  -- an argument and the tokens after it form one list of tokens
  onto : (s : Mark) (gs left ts rest : List Glyph) (a : Phrase) (arg : Argument s gs left a) → left ≡ ts ++ rest → gs ≡ (arg.front ++ sign s ∷ ts) ++ rest
  onto s gs left ts rest a arg e = arg.split ∙ ap (λ l. arg.front ++ sign s ∷ l) e ∙ sym (append_assoc arg.front (sign s ∷ ts) rest)

  opposite_sound : (gs rest : List Glyph) (c : Phrase) → opposite reads gs ≡ Some (c, rest) → Begins (AtomOver Inside) (text (codes "not") ∷ gs) c rest
  unfolding opposite
  opposite_sound gs rest c e =
      let zeroth = steps (mark m.Open gs) (λ _. argument reads m.Close >>= (λ a. limited (negation a))) c rest e in
      let opened = marked m.Open gs zeroth.left zeroth.value zeroth.read in
      let first = steps (argument reads m.Close zeroth.left) (λ a. limited (negation a)) c rest zeroth.next in
      let arg = argued m.Close zeroth.left first.left first.value first.read in
      let pass = passed (negation first.value) c first.left rest first.next in
      let split : zeroth.left ≡ (arg.front ++ sign m.Close ∷ []) ++ rest = onto m.Close zeroth.left first.left [] rest first.value arg pass.left in
      let front : List Glyph = text (codes "not") ∷ sign m.Open ∷ arg.front ++ sign m.Close ∷ [] in
      record { front = front; split = ap (λ l. text (codes "not") ∷ l) (opened ∙ ap (λ l. sign m.Open ∷ l) split); is = subst (AtomOver Inside front) pass.same (not_atom arg.front first.value arg.is); low = low_along (negation first.value) c pass.same pass.low }

  call_sound : (o : Op) (w : List ℕ) (gs rest : List Glyph) (c : Phrase) → Call o w → call reads o gs ≡ Some (c, rest) → Begins (AtomOver Inside) (text w ∷ gs) c rest
  unfolding call
  call_sound o w gs rest c is e =
      let zeroth = steps (mark m.Open gs) (λ _. argument reads m.Comma >>= (λ a. argument reads m.Close >>= (λ b. limited (two o a b)))) c rest e in
      let opened = marked m.Open gs zeroth.left zeroth.value zeroth.read in
      let first = steps (argument reads m.Comma zeroth.left) (λ a. argument reads m.Close >>= (λ b. limited (two o a b))) c rest zeroth.next in
      let second = steps (argument reads m.Close first.left) (λ b. limited (two o first.value b)) c rest first.next in
      let left = argued m.Comma zeroth.left first.left first.value first.read in
      let right = argued m.Close first.left second.left second.value second.read in
      let pass = passed (two o first.value second.value) c second.left rest second.next in
      let end : first.left ≡ (right.front ++ sign m.Close ∷ []) ++ rest = onto m.Close first.left second.left [] rest second.value right pass.left in
      let split : zeroth.left ≡ (left.front ++ (sign m.Comma ∷ (right.front ++ sign m.Close ∷ []))) ++ rest = onto m.Comma zeroth.left first.left (right.front ++ sign m.Close ∷ []) rest first.value left end in
      let front : List Glyph = text w ∷ sign m.Open ∷ left.front ++ (sign m.Comma ∷ right.front ++ (sign m.Close ∷ [])) in
      record { front = front; split = ap (λ l. text w ∷ l) (opened ∙ ap (λ l. sign m.Open ∷ l) split); is = subst (AtomOver Inside front) pass.same (call_atom o w left.front right.front first.value second.value is left.is right.is); low = low_along (two o first.value second.value) c pass.same pass.low }

  alternative_sound : (gs rest : List Glyph) (c : Phrase) → alternative reads gs ≡ Some (c, rest) → Begins (AtomOver Inside) (text (codes "if") ∷ gs) c rest
  unfolding alternative
  alternative_sound gs rest c e =
      let zeroth = steps (mark m.Open gs) (λ _. argument reads m.Comma >>= (λ a. argument reads m.Comma >>= (λ b. argument reads m.Close >>= (λ d. limited (choice a b d))))) c rest e in
      let opened = marked m.Open gs zeroth.left zeroth.value zeroth.read in
      let one = steps (argument reads m.Comma zeroth.left) (λ a. argument reads m.Comma >>= (λ b. argument reads m.Close >>= (λ d. limited (choice a b d)))) c rest zeroth.next in
      let other = steps (argument reads m.Comma one.left) (λ b. argument reads m.Close >>= (λ d. limited (choice one.value b d))) c rest one.next in
      let last = steps (argument reads m.Close other.left) (λ d. limited (choice one.value other.value d)) c rest other.next in
      let test = argued m.Comma zeroth.left one.left one.value one.read in
      let then = argued m.Comma one.left other.left other.value other.read in
      let otherwise = argued m.Close other.left last.left last.value last.read in
      let pass = passed (choice one.value other.value last.value) c last.left rest last.next in
      let third : other.left ≡ (otherwise.front ++ sign m.Close ∷ []) ++ rest = onto m.Close other.left last.left [] rest last.value otherwise pass.left in
      let second : one.left ≡ (then.front ++ (sign m.Comma ∷ (otherwise.front ++ sign m.Close ∷ []))) ++ rest = onto m.Comma one.left other.left (otherwise.front ++ sign m.Close ∷ []) rest other.value then third in
      let first : zeroth.left ≡ (test.front ++ (sign m.Comma ∷ (then.front ++ (sign m.Comma ∷ (otherwise.front ++ sign m.Close ∷ []))))) ++ rest = onto m.Comma zeroth.left one.left (then.front ++ (sign m.Comma ∷ (otherwise.front ++ sign m.Close ∷ []))) rest one.value test second in
      let front : List Glyph = text (codes "if") ∷ sign m.Open ∷ test.front ++ (sign m.Comma ∷ then.front ++ (sign m.Comma ∷ otherwise.front ++ (sign m.Close ∷ []))) in
      record { front = front; split = ap (λ l. text (codes "if") ∷ l) (opened ∙ ap (λ l. sign m.Open ∷ l) first); is = subst (AtomOver Inside front) pass.same (if_atom test.front then.front otherwise.front one.value other.value last.value test.is then.is otherwise.is); low = low_along (choice one.value other.value last.value) c pass.same pass.low }

  word_sound : (w : List ℕ) (gs rest : List Glyph) (c : Phrase) (found : Option Function) → function_of w ≡ found → word_at reads w found gs ≡ Some (c, rest) → Begins (AtomOver Inside) (text w ∷ gs) c rest
  word_sound w gs rest c None is e =
      let was = operand_was w c gs rest e in
      record { front = text w ∷ []; split = ap (λ l. text w ∷ l) was.over; is = subst (AtomOver Inside (text w ∷ [])) was.same (word_atom w was.is); low = low_along (word w) c was.same (omega arith) }
  word_sound w gs rest c (Some (f.Two o)) is e = call_sound o w gs rest c (function_is w (f.Two o) is) e
  word_sound w gs rest c (Some f.Not) is e = subst (λ v. Begins (AtomOver Inside) (text v ∷ gs) c rest) (sym (function_is w f.Not is)) (opposite_sound gs rest c e)
  word_sound w gs rest c (Some f.If) is e = subst (λ v. Begins (AtomOver Inside) (text v ∷ gs) c rest) (sym (function_is w f.If is)) (alternative_sound gs rest c e)

  sign_sound : (s : Mark) (gs rest : List Glyph) (c : Phrase) → mark_at reads s gs ≡ Some (c, rest) → Begins (AtomOver Inside) (sign s ∷ gs) c rest
  sign_sound m.Open gs rest c e = parens_sound gs rest c e
  sign_sound _ gs rest c e = absurd cc

  atom_sound : (gs rest : List Glyph) (c : Phrase) → (next >>= atom_at reads) gs ≡ Some (c, rest) → Begins (AtomOver Inside) gs c rest
  atom_sound [] rest c e = absurd cc
  atom_sound (text w ∷ gs) rest c e = word_sound w gs rest c (function_of w) refl e
  atom_sound (figure n ∷ gs) rest c e =
      let same : number n ≡ c = same_value (number n) c gs rest e in
      record { front = figure n ∷ []; split = ap (λ l. figure n ∷ l) (same_rest (number n) c gs rest e); is = subst (AtomOver Inside (figure n ∷ [])) same (number_atom n); low = low_along (number n) c same (omega arith) }
  atom_sound (sign s ∷ gs) rest c e = sign_sound s gs rest c e

  pub AtomOver-exact : ((gs : List Glyph) → InsideEnds (sign m.Close ∷ gs)) → ((gs : List Glyph) → InsideEnds (sign m.Comma ∷ gs)) → Exact (AtomOver Inside) (λ _. Unit {0}) (next >>= atom_at reads)
  AtomOver-exact close comma = record { sound = atom_sound; again = atom_again close comma }

-- ---- the whole expression

-- what may follow an expression
abbrev pub Ends : List Glyph → Type 0
Ends rest = ((Unit {0} × (ahead product_op rest ≡ None)) × (ahead sum_op rest ≡ None)) × (ahead relation rest ≡ None)

sum_stops : (g : Glyph) (o : Op) (gs : List Glyph) → sum_op g ≡ Some o → Unit {0} × (ahead product_op (g ∷ gs) ≡ None)
sum_stops (sign m.Plus) o gs e = (tt, refl)
sum_stops (sign m.Minus) o gs e = (tt, refl)
sum_stops _ o gs e = absurd cc

relation_stops : (g : Glyph) (o : Op) (gs : List Glyph) → relation g ≡ Some o → (Unit {0} × (ahead product_op (g ∷ gs) ≡ None)) × (ahead sum_op (g ∷ gs) ≡ None)
relation_stops (sign m.Less) o gs e = ((tt, refl), refl)
relation_stops (sign m.LessEq) o gs e = ((tt, refl), refl)
relation_stops (sign m.Equal) o gs e = ((tt, refl), refl)
relation_stops (sign m.NotEqual) o gs e = ((tt, refl), refl)
relation_stops (sign m.MoreEq) o gs e = ((tt, refl), refl)
relation_stops (sign m.More) o gs e = ((tt, refl), refl)
relation_stops _ o gs e = absurd cc

pub Expression-exact : {Part : Form} {read : Reader Phrase} → Exact Part (λ _. Unit {0}) read → Exact (Expression Part) Ends (expression read)
unfolding expression sum product
Expression-exact exact = Compared-exact (Grouped-exact (Grouped-exact exact (λ g o gs e. tt)) sum_stops) relation_stops

none_exact : Exact NoForm Ends refuse
none_exact = record { sound = λ gs rest a e. absurd cc; again = λ ts rest a is low end. absurd is }

pub Atom-exact : (room : ℕ) → Exact (Atom room) (λ _. Unit {0}) (atom room)
unfolding atom
Atom-exact zero = AtomOver-exact none_exact (λ gs. (((tt, refl), refl), refl)) (λ gs. (((tt, refl), refl), refl))
Atom-exact (suc room) = AtomOver-exact (Expression-exact (Atom-exact room)) (λ gs. (((tt, refl), refl), refl)) (λ gs. (((tt, refl), refl), refl))

pub all_exact : Exact (Expression (Atom most_open)) Ends (expression (atom most_open))
all_exact = Expression-exact (Atom-exact most_open)
