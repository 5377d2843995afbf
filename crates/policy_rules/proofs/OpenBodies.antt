-- The open body after one more line.
use Rattle.policy_rules.proofs.Prelude.{◌∙◌, List, ◌≡◌, [], ◌∷◌, refl, ◌++◌, false, Bool, true, ◌||◌, or-false, or-true, list_any-append, list_any, Entry, is_transaction, open_body}

any_push : (lines : List Entry) (e : Entry) (b : Bool) → is_transaction e ≡ b → list_any is_transaction (lines ++ e ∷ []) ≡ (list_any is_transaction lines || b)
any_push lines e true is = list_any-append is_transaction lines (e ∷ []) ∙ rw is refl
any_push lines e false is = list_any-append is_transaction lines (e ∷ []) ∙ rw is refl

-- a transaction opens an empty body
pub open_body-opened : (lines : List Entry) (e : Entry) → is_transaction e ≡ true → open_body (lines ++ e ∷ []) ≡ []
open_body-opened [] e is = rw is refl
open_body-opened (f ∷ fs) e is = rw (any_push fs e true is ∙ or-true (list_any is_transaction fs)) (open_body-opened fs e is)

open_step : (f e : Entry) (fs : List Entry) (a b : Bool) → list_any is_transaction fs ≡ a → is_transaction f ≡ b → list_any is_transaction (fs ++ e ∷ []) ≡ a → open_body (fs ++ e ∷ []) ≡ open_body fs ++ e ∷ []
    → open_body (f ∷ (fs ++ e ∷ [])) ≡ open_body (f ∷ fs) ++ e ∷ []
open_step f e fs true b any own more later = rw (any, more) later
open_step f e fs false true any own more later = rw (any, own, more) refl
open_step f e fs false false any own more later = rw (any, own, more) refl

-- any other line is added to the open body
pub open_body-line : (lines : List Entry) (e : Entry) → is_transaction e ≡ false → open_body (lines ++ e ∷ []) ≡ open_body lines ++ e ∷ []
open_body-line [] e is = rw is refl
open_body-line (f ∷ fs) e is = open_step f e fs (list_any is_transaction fs) (is_transaction f) refl refl (any_push fs e false is ∙ or-false (list_any is_transaction fs)) (open_body-line fs e is)
