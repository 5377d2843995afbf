-- The limit of a leaf: the reader accepts exactly its form.
use Rattle.policy_text_defs.proofs.Prelude.{List, ℕ, [], refl, ◌≡◌, ◌∷◌, Some, ◌++◌, subst, None, codes, ◌∙◌, Option, ap, leb, leb-true, le-leb, ◌&&◌, Glyph, text, figure, limit_least, limit_most, ahead, pick, pure, Outcome, ◌>>=◌, a_number, attribute_at, word_ahead, IsLimit, Limit, unlimited}
use Rattle.policy_text_defs.specs.declared.queueing.Bound.TheVariants as bound
use Rattle.policy_text_defs.specs.Statements.{limited}
use Rattle.policy_text_defs.specs.StatementReading.{limit_by, limit}
use Rattle.policy_text_defs.proofs.StepLaws.{With, steps, same_value, same_rest}
use Rattle.policy_text_defs.proofs.TokenLaws.{numbered, kept, Kept, both_true}
use Rattle.policy_text_defs.proofs.ConditionLaws.{word_follows}

limit_by_was : (n : ℕ) (l : Option ℕ) (gs left : List Glyph) → limit_by n gs ≡ Some (l, left) → Kept (leb limit_least n && leb n limit_most) (Some n) l gs left
unfolding limit_by
limit_by_was n l gs left e = kept (leb limit_least n && leb n limit_most) (Some n) l gs left e

limit_case : (l : Option ℕ) (gs left : List Glyph) (found : Outcome (Unit {0})) → ahead (word_ahead (codes "limit")) gs ≡ found → pick found (pure None gs) (λ t. (a_number >>= limit_by) t.1) ≡ Some (l, left) → With Limit gs l left
limit_case l gs left None is e = record { front = []; split = same_rest None l gs left e; is = subst (Limit []) (same_value None l gs left e) unlimited }
limit_case l gs left (Some t) is e =
    let first = steps (a_number t.1) limit_by l left e in
    let w = limit_by_was first.value l first.left left first.next in
    let both = both_true (leb limit_least first.value) (leb first.value limit_most) w.is in
    let may : IsLimit bound.Packets first.value = record { above = leb-true limit_least first.value both.0; below = leb-true first.value limit_most both.1 } in
    let front : List Glyph = text (codes "limit") ∷ figure first.value ∷ [] in
    let number : t.1 ≡ figure first.value ∷ left = numbered t.1 first.left first.value first.read ∙ ap (λ l. figure first.value ∷ l) w.rest in
    record { front = front; split = word_follows (codes "limit") gs t.1 t.0 is ∙ ap (λ l. text (codes "limit") ∷ l) number; is = subst (Limit front) w.same (limited first.value may) }

pub limit_was : (l : Option ℕ) (gs left : List Glyph) → limit gs ≡ Some (l, left) → With Limit gs l left
unfolding limit
limit_was l gs left e = limit_case l gs left (ahead (word_ahead (codes "limit")) gs) refl e

pub read_limit : (l : Option ℕ) (ls gs : List Glyph) → Limit ls l → limit (ls ++ text (codes "classes") ∷ gs) ≡ Some (l, text (codes "classes") ∷ gs)
unfolding limit limit_by
read_limit l ls gs unlimited = refl
read_limit l ls gs (limited n is) = rw (le-leb limit_least n is.above, le-leb n limit_most is.below) refl

-- neither a limit nor the token after it is an attribute
pub limit_ends : (l : Option ℕ) (ls gs : List Glyph) → Limit ls l → ahead attribute_at (ls ++ text (codes "classes") ∷ gs) ≡ None
limit_ends l ls gs unlimited = refl
limit_ends l ls gs (limited n is) = refl
