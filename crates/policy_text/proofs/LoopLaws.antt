-- Turns of the loops over attributes, names and conditions.
use Rattle.policy_text.proofs.Prelude.{codes, ◌≡◌, sym, ◌++◌, refl, [], List, subst, ℕ, ◌∷◌, None, Some, Repeats, repeats_start, Outcome, Reader, ahead, Glyph}
use Rattle.policy_text_defs.specs.declared.attribute.Attribute.{Attribute}
use Rattle.policy_text_defs.specs.declared.attribute.Attrs.{Attrs}
use Rattle.policy_text_defs.specs.declared.condition.Condition.{Condition}
use Rattle.policy_text_defs.specs.declared.test.Range.{Range}
use Rattle.policy_text_defs.specs.declared.test.TestField.{TestField}
use Rattle.policy_text_defs.specs.declared.test.Test.{Test}
use Rattle.policy_text_defs.specs.TestReading.{part_last, separated, a_range, a_test, tests, test_lists}
use Rattle.policy_text_defs.specs.StatementReading.{word_ahead, a_number, set_to, set_next, a_condition, condition_last, name, name_ahead, name_last, names}

pub set_read : (k : Attribute) (a b : Attrs) (n : ℕ) (gs hs is : List Glyph) → a_number gs ≡ Some (n, hs) → set_to k a n hs ≡ Some (b, is) → set_next k a gs ≡ Some (b, is)
set_read k a b n gs hs is number set = rw (number, set) refl

pub set_unread : (k : Attribute) (a : Attrs) (gs : List Glyph) → a_number gs ≡ None → set_next k a gs ≡ None
set_unread k a gs none = rw none refl

pub set_refused : (k : Attribute) (a : Attrs) (n : ℕ) (gs hs : List Glyph) → a_number gs ≡ Some (n, hs) → set_to k a n hs ≡ None → set_next k a gs ≡ None
set_refused k a n gs hs number none = rw (number, none) refl

pub condition_read : (cs : List Condition) (c : Condition) (gs hs : List Glyph) → a_condition gs ≡ Some (c, hs) → condition_last tt cs gs ≡ Some (cs ++ c ∷ [], hs)
condition_read cs c gs hs read = rw read refl

pub condition_unread : (cs : List Condition) (gs : List Glyph) → a_condition gs ≡ None → condition_last tt cs gs ≡ None
condition_unread cs gs none = rw none refl

pub range_read : (f : TestField) (rs : List Range) (r : Range) (gs hs : List Glyph) → a_range f gs ≡ Some (r, hs) → part_last (a_range f) tt rs gs ≡ Some (rs ++ r ∷ [], hs)
range_read f rs r gs hs read = rw read refl

pub range_unread : (f : TestField) (rs : List Range) (gs : List Glyph) → a_range f gs ≡ None → part_last (a_range f) tt rs gs ≡ None
range_unread f rs gs none = rw none refl

pub test_read : (ts : List Test) (t : Test) (gs hs : List Glyph) → a_test gs ≡ Some (t, hs) → part_last a_test tt ts gs ≡ Some (ts ++ t ∷ [], hs)
test_read ts t gs hs read = rw read refl

pub test_unread : (ts : List Test) (gs : List Glyph) → a_test gs ≡ None → part_last a_test tt ts gs ≡ None
test_unread ts gs none = rw none refl

pub tests_read : (cs : List (List Test)) (ts : List Test) (gs hs : List Glyph) → tests gs ≡ Some (ts, hs) → part_last tests tt cs gs ≡ Some (cs ++ ts ∷ [], hs)
tests_read cs ts gs hs read = rw read refl

pub tests_unread : (cs : List (List Test)) (gs : List Glyph) → tests gs ≡ None → part_last tests tt cs gs ≡ None
tests_unread cs gs none = rw none refl

pub tests_start : (t : Test) (gs hs : List Glyph) → a_test gs ≡ Some (t, hs) → Repeats (ahead (word_ahead (codes "and"))) (part_last a_test) (tests gs) (t ∷ []) hs
unfolding separated
tests_start t gs hs read = rw read (repeats_start (ahead (word_ahead (codes "and"))) (part_last a_test) (t ∷ []) hs)

pub lists_start : (ts : List Test) (gs hs : List Glyph) → tests gs ≡ Some (ts, hs) → Repeats (ahead (word_ahead (codes "or"))) (part_last tests) (test_lists gs) (ts ∷ []) hs
unfolding separated
lists_start ts gs hs read = rw read (repeats_start (ahead (word_ahead (codes "or"))) (part_last tests) (ts ∷ []) hs)

pub names_start : (w : List ℕ) (gs hs : List Glyph) → name gs ≡ Some (w, hs) → Repeats (ahead name_ahead) name_last (names gs) (w ∷ []) hs
unfolding names
names_start w gs hs read = rw read (repeats_start (ahead name_ahead) name_last (w ∷ []) hs)

-- the same loop at an equal value
pub repeats_at : {K A : Type 0} (take : List Glyph → Outcome K) (step : K → A → Reader A) (whole : Outcome A) (a b : A) (gs : List Glyph) → Repeats take step whole a gs → b ≡ a → Repeats take step whole b gs
repeats_at take step whole a b gs before same = subst (λ c. Repeats take step whole c gs) (sym same) before
