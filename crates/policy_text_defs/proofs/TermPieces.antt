-- The canonical text of a term spells the term's tokens.
use Rattle.policy_text_defs.proofs.Prelude.{List, ℕ, [], refl, ◌≡◌, ◌∷◌, ◌++◌, subst, Bool, true, false, sym, codes, cond, list_all, Op, Add, Div, Equal, Less, LessEq, More, MoreEq, Mul, NotEqual, Sub, And, Max, Min, Or, says_mark_in, Glyph, text, sign, SaysIn, IsApart, has_words, Dialect, dialect_of, Edition, ◌&&◌, is_infix, is_infix_op, op_text, call_text, infix_text, term_text, wrapped, Phrase, two, choice, negation, number, word, HasOperands}
use Rattle.text_core.specs.declared.mark.Mark.TheVariants as m
use Rattle.policy_text_defs.proofs.TermTokens.{op_mark, wrapped_tokens, infix_tokens, call_tokens, tokens_of}
use Rattle.policy_text_defs.proofs.WordForms.{operand_is_word}
use Rattle.policy_text_defs.proofs.Pieces.{is_plain, IsSpaced, IsPiece, join, after, before, ends_early, text_blank, text_open, text_close, text_comma, text_word, text_name, text_number}
use Rattle.policy_text_defs.proofs.TokenLaws.{both_true}

op_plain : (op : Op) → is_infix_op op ≡ true → list_all is_plain (op_text op) ≡ true
op_plain Add is = refl
op_plain Sub is = refl
op_plain Mul is = refl
op_plain Div is = refl
op_plain Less is = refl
op_plain LessEq is = refl
op_plain Equal is = refl
op_plain NotEqual is = refl
op_plain MoreEq is = refl
op_plain More is = refl
op_plain Min is = absurd cc
op_plain Max is = absurd cc
op_plain And is = absurd cc
op_plain Or is = absurd cc

-- an operator before a blank
says_op : (d : Dialect) (op : Op) (rest : List ℕ) (gs : List Glyph) → is_infix_op op ≡ true → SaysIn d (32 ∷ rest) gs → SaysIn d (op_text op ++ (32 ∷ rest)) (sign (op_mark op) ∷ gs)
says_op d Add rest gs is later = says_mark_in d m.Plus (32 ∷ rest) gs refl refl later
says_op d Sub rest gs is later = says_mark_in d m.Minus (32 ∷ rest) gs refl refl later
says_op d Mul rest gs is later = says_mark_in d m.Star (32 ∷ rest) gs refl refl later
says_op d Div rest gs is later = says_mark_in d m.Slash (32 ∷ rest) gs refl refl later
says_op d Less rest gs is later = says_mark_in d m.Less (32 ∷ rest) gs refl refl later
says_op d LessEq rest gs is later = says_mark_in d m.LessEq (32 ∷ rest) gs refl refl later
says_op d Equal rest gs is later = says_mark_in d m.Equal (32 ∷ rest) gs refl refl later
says_op d NotEqual rest gs is later = says_mark_in d m.NotEqual (32 ∷ rest) gs refl refl later
says_op d MoreEq rest gs is later = says_mark_in d m.MoreEq (32 ∷ rest) gs refl refl later
says_op d More rest gs is later = says_mark_in d m.More (32 ∷ rest) gs refl refl later
says_op d Min rest gs is later = absurd cc
says_op d Max rest gs is later = absurd cc
says_op d And rest gs is later = absurd cc
says_op d Or rest gs is later = absurd cc

text_op : {d : Dialect} (op : Op) → is_infix_op op ≡ true → IsPiece d IsSpaced (op_text op) (sign (op_mark op) ∷ [])
text_op {d} op is = record {
  plain = op_plain op is;
  says = λ rest gs end later.
      let P : List ℕ → Type 0 = λ l. SaysIn d (op_text op ++ l) (sign (op_mark op) ∷ gs) in
      let Q : List ℕ → Type 0 = λ l. SaysIn d l gs in
      subst P (sym end.1) (says_op d op end.0 gs is (subst Q end.1 later));
}

text_wrapped : {d : Dialect} (v : Bool) {bytes : List ℕ} {tokens : List Glyph} → IsPiece d IsApart bytes tokens → IsPiece d IsApart (wrapped v bytes) (wrapped_tokens v tokens)
text_wrapped false t = t
text_wrapped true t = after text_open (before t refl (ends_early text_close))

text_infix : {d : Dialect} (op : Op) {bs cs : List ℕ} {ts us : List Glyph} → is_infix_op op ≡ true → IsPiece d IsApart bs ts → IsPiece d IsApart cs us → IsPiece d IsApart (infix_text op bs cs) (infix_tokens op ts us)
text_infix op {cs = cs} is t u = before t refl (after text_blank (join (text_op op is) (λ rest end. (cs ++ rest, refl)) (after text_blank u)))

text_function : {d : Dialect} (op : Op) → is_infix_op op ≡ false → IsPiece d IsApart (op_text op) (text (op_text op) ∷ [])
text_function Add is = absurd cc
text_function Sub is = absurd cc
text_function Mul is = absurd cc
text_function Div is = absurd cc
text_function Less is = absurd cc
text_function LessEq is = absurd cc
text_function Equal is = absurd cc
text_function NotEqual is = absurd cc
text_function MoreEq is = absurd cc
text_function More is = absurd cc
text_function Min is = text_word (op_text Min) refl
text_function Max is = text_word (op_text Max) refl
text_function And is = text_word (op_text And) refl
text_function Or is = text_word (op_text Or) refl

text_call : {d : Dialect} (op : Op) {bs cs : List ℕ} {ts us : List Glyph} → is_infix_op op ≡ false → IsPiece d IsApart bs ts → IsPiece d IsApart cs us → IsPiece d IsApart (call_text op bs cs) (call_tokens op ts us)
text_call op is t u = before (text_function op is) refl (after text_open (before t refl (after text_comma (before u refl (ends_early text_close)))))

text_two : {d : Dialect} (op : Op) (v : Bool) → is_infix_op op ≡ v → (a b : Phrase) → IsPiece d IsApart (term_text a) (tokens_of a) → IsPiece d IsApart (term_text b) (tokens_of b) → IsPiece d IsApart (cond v (infix_text op (wrapped (is_infix a) (term_text a)) (wrapped (is_infix b) (term_text b))) (call_text op (term_text a) (term_text b))) (cond v (infix_tokens op (wrapped_tokens (is_infix a) (tokens_of a)) (wrapped_tokens (is_infix b) (tokens_of b))) (call_tokens op (tokens_of a) (tokens_of b)))
text_two op true is a b t u = text_infix op is (text_wrapped (is_infix a) t) (text_wrapped (is_infix b) u)
text_two op false is a b t u = text_call op is t u

-- the canonical text of a term spells the term's tokens
pub text_term : (e : Edition) (a : Phrase) → HasOperands a → has_words e a ≡ true → IsPiece (dialect_of e) IsApart (term_text a) (tokens_of a)
text_term e (number n) low has = text_number n low
text_term e (word w) is has = text_name e w (operand_is_word w is) has
text_term e (negation a) names has = before (text_word (codes "not") refl) refl (after text_open (before (text_term e a names has) refl (ends_early text_close)))
text_term e (choice a b c) names has =
    let first = both_true (has_words e a) (has_words e b && has_words e c) has in
    let others = both_true (has_words e b) (has_words e c) first.1 in
    before (text_word (codes "if") refl) refl (after text_open (before (text_term e a names.0 first.0) refl (after text_comma (before (text_term e b names.1 others.0) refl (after text_comma (before (text_term e c names.2 others.1) refl (ends_early text_close)))))))
text_term e (two op a b) names has =
    let both = both_true (has_words e a) (has_words e b) has in
    text_two op (is_infix_op op) refl a b (text_term e a names.0 both.0) (text_term e b names.1 both.1)
