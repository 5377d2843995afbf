-- The variables of the open transaction after one more statement.
use Rattle.policy_rules.proofs.Prelude.{◌∙◌, ap, List, ◌≡◌, sym, ℕ, [], ◌∷◌, ◌++◌, false, true, Some, ◌||◌, None, or-false, append-nil, list_any-append, cons_option, bytes_eq, Entry, sense_of, Statement, is_transaction, open_body, AreVariables, open_variables, with_name, Name, has, declared, variable_name}
use Rattle.policy_text_defs.specs.Sense.{entry}
use Rattle.policy_rules.proofs.Lines.{declared-push}
use Rattle.policy_rules.proofs.OpenBodies.{open_body-line, open_body-opened}
use Rattle.policy_rules.proofs.TallyLaws.{has-with_name}

-- a transaction begins with no variables
pub variables-opened : (earlier : List Entry) (e : Entry) (vs : List Name) → is_transaction e ≡ true → vs ≡ [] → AreVariables (earlier ++ e ∷ []) vs
variables-opened earlier e vs opens none = λ n. ap (λ l. has l n) none ∙ sym (ap (λ b. has (declared variable_name b) n) (open_body-opened earlier e opens))

-- the variable that another statement declares comes last
pub open_variables-line : (earlier : List Entry) (e : Entry) → is_transaction e ≡ false → open_variables (earlier ++ e ∷ []) ≡ open_variables earlier ++ cons_option (variable_name e.1) []
open_variables-line earlier e other = ap (declared variable_name) (open_body-line earlier e other) ∙ declared-push variable_name (open_body earlier) e

pub variables-added : (earlier : List Entry) (e : Entry) (a : Name) (vs vs' : List Name) → is_transaction e ≡ false → variable_name e.1 ≡ Some a → AreVariables earlier vs → vs' ≡ with_name vs a → AreVariables (earlier ++ e ∷ []) vs'
variables-added earlier e a vs vs' other names kept after = λ n.
    ap (λ l. has l n) after ∙ has-with_name vs a n ∙ ap (λ b. b || bytes_eq n a) (kept n)
    ∙ sym (ap (λ l. has l n) (open_variables-line earlier e other ∙ ap (λ o. open_variables earlier ++ cons_option o []) names)
    ∙ list_any-append (bytes_eq n) (open_variables earlier) (a ∷ []) ∙ ap (λ b. has (open_variables earlier) n || b) (or-false (bytes_eq n a)))

pub variables-same : (earlier : List Entry) (e : Entry) (vs : List Name) → is_transaction e ≡ false → variable_name e.1 ≡ None → AreVariables earlier vs → AreVariables (earlier ++ e ∷ []) vs
variables-same earlier e vs other names kept = λ n.
    kept n ∙ sym (ap (λ l. has l n) (open_variables-line earlier e other ∙ ap (λ o. open_variables earlier ++ cons_option o []) names ∙ append-nil (open_variables earlier)))

-- the same for a statement with one of several known forms
module _ (earlier : List Entry) (line : ℕ) (s : Statement) (vs : List Name) (kept : AreVariables earlier vs) where
  pub same_at : (form : Statement) → s ≡ form → is_transaction (entry line (sense_of form)) ≡ false → variable_name (sense_of form) ≡ None → AreVariables (earlier ++ entry line (sense_of s) ∷ []) vs
  same_at form is other none = variables-same earlier (entry line (sense_of s)) vs (ap (λ f. is_transaction (entry line (sense_of f))) is ∙ other) (ap (λ f. variable_name (sense_of f)) is ∙ none) kept

  pub added_at : (a : Name) (vs' : List Name) → vs' ≡ with_name vs a → (form : Statement) → s ≡ form → is_transaction (entry line (sense_of form)) ≡ false → variable_name (sense_of form) ≡ Some a
      → AreVariables (earlier ++ entry line (sense_of s) ∷ []) vs'
  added_at a vs' after form is other some = variables-added earlier (entry line (sense_of s)) a vs vs' (ap (λ f. is_transaction (entry line (sense_of f))) is ∙ other) (ap (λ f. variable_name (sense_of f)) is ∙ some) kept after
