-- The three spaces after one more statement.
use Rattle.policy_rules.proofs.Prelude.{◌∙◌, ap, List, ◌≡◌, sym, ℕ, [], ◌∷◌, refl, ◌++◌, false, Bool, true, Some, inl, inr, ◌||◌, None, true≢false, Option, ◌⊎◌, if◌then◌else◌, append-nil, cons_option, Entry, sense_of, Sense, class, transaction, Attrs, Condition, Statement, Each, Keep, Pop, Push, Version, Span, is_declared, AreSpaces, with_name, Name, has, declared, node_name, class_name, transaction_name}
use Rattle.policy_text_defs.specs.declared.term.Term.{Term}
use Rattle.policy_text_defs.specs.Sense.{entry}
use Rattle.policy_rules.proofs.Lines.{declared-push}
use Rattle.policy_rules.specs.declared.spaces.Spaces.{Spaces}

added : (names : List Name) (a : Name) → has names a ≡ false → with_name names a ≡ names ++ a ∷ []
added names a new = ap (λ b. if b then names else names ++ a ∷ []) new

-- a new name comes last in its space, and the other spaces are unchanged
module _ (space : Sense → Option Name) (earlier : List Entry) (e : Entry) (names : List Name) (are : names ≡ declared space earlier) where
  pub space-more : (a : Name) (names' : List Name) → space e.1 ≡ Some a → has (declared space earlier) a ≡ false → names' ≡ with_name names a → names' ≡ declared space (earlier ++ e ∷ [])
  space-more a names' is new after =
      after ∙ ap (λ l. with_name l a) are ∙ added (declared space earlier) a new
      ∙ sym (declared-push space earlier e ∙ ap (λ o. declared space earlier ++ cons_option o []) is)

  pub space-same : space e.1 ≡ None → names ≡ declared space (earlier ++ e ∷ [])
  space-same none = are ∙ sym (declared-push space earlier e ∙ ap (λ o. declared space earlier ++ cons_option o []) none ∙ append-nil (declared space earlier))

second_false : (a b : Bool) → (a || b) ≡ false → b ≡ false
second_false true b e = absurd (true≢false e)
second_false false b e = e

-- the forms of statements
module _ (earlier : List Entry) (spaces : Spaces) (are : AreSpaces earlier spaces) (line : ℕ) (s : Statement) (new : is_declared earlier (sense_of s) ≡ false) where
  abbrev here : Entry
  here = entry line (sense_of s)

  pub transaction-more : (a : Name) (ts' : List Name) → sense_of s ≡ transaction a → ts' ≡ with_name spaces.transactions a → AreSpaces (earlier ++ here ∷ []) (record spaces { transactions = ts' })
  transaction-more a ts' is after = record {
    transactions_are = space-more transaction_name earlier here spaces.transactions are.transactions_are a ts' (ap transaction_name is) (second_false _ _ (sym (ap (is_declared earlier) is) ∙ new)) after;
    classes_are = space-same class_name earlier here spaces.classes are.classes_are (ap class_name is);
    nodes_are = space-same node_name earlier here spaces.nodes are.nodes_are (ap node_name is);
  }

  pub class-more : (a : Name) (cs' : List Name) (form : Sense) → sense_of s ≡ form → transaction_name form ≡ None → class_name form ≡ Some a → node_name form ≡ None → is_declared earlier form ≡ has (declared class_name earlier) a → cs' ≡ with_name spaces.classes a → AreSpaces (earlier ++ here ∷ []) (record spaces { classes = cs' })
  class-more a cs' form is no_transaction class_is no_node tested after = record {
    transactions_are = space-same transaction_name earlier here spaces.transactions are.transactions_are (ap transaction_name is ∙ no_transaction);
    classes_are = space-more class_name earlier here spaces.classes are.classes_are a cs' (ap class_name is ∙ class_is) (sym (ap (is_declared earlier) is ∙ tested) ∙ new) after;
    nodes_are = space-same node_name earlier here spaces.nodes are.nodes_are (ap node_name is ∙ no_node);
  }

  pub node-more : (a : Name) (ns' : List Name) (form : Sense) → sense_of s ≡ form → transaction_name form ≡ None → class_name form ≡ None → node_name form ≡ Some a → is_declared earlier form ≡ has (declared node_name earlier) a
      → ns' ≡ with_name spaces.nodes a → AreSpaces (earlier ++ here ∷ []) (record spaces { nodes = ns' })
  node-more a ns' form is no_transaction no_class node tested after = record {
    transactions_are = space-same transaction_name earlier here spaces.transactions are.transactions_are (ap transaction_name is ∙ no_transaction);
    classes_are = space-same class_name earlier here spaces.classes are.classes_are (ap class_name is ∙ no_class);
    nodes_are = space-more node_name earlier here spaces.nodes are.nodes_are a ns' (ap node_name is ∙ node) (sym (ap (is_declared earlier) is ∙ tested) ∙ new) after;
  }

  nothing-more : (form : Sense) → sense_of s ≡ form → transaction_name form ≡ None → class_name form ≡ None → node_name form ≡ None → AreSpaces (earlier ++ here ∷ []) spaces
  nothing-more form is no_transaction no_class no_node = record {
    transactions_are = space-same transaction_name earlier here spaces.transactions are.transactions_are (ap transaction_name is ∙ no_transaction);
    classes_are = space-same class_name earlier here spaces.classes are.classes_are (ap class_name is ∙ no_class);
    nodes_are = space-same node_name earlier here spaces.nodes are.nodes_are (ap node_name is ∙ no_node);
  }

  -- a statement that declares no name in these spaces
  pub nothing_more : ((v : ℕ) × (s ≡ Version v)) ⊎ ((n : Name) × (r : Span) × (s ≡ Keep n r)) ⊎ ((n : Name) × (r : Span) × (s ≡ Each n r)) ⊎ ((n : Name) × (t : Term) × (s ≡ Push n t)) ⊎ ((n : Name) × (t : Term) × (s ≡ Pop n t)) → AreSpaces (earlier ++ here ∷ []) spaces
  nothing_more (inl (v, is)) = nothing-more _ (ap sense_of is) refl refl refl
  nothing_more (inr (inl (n, r, is))) = nothing-more _ (ap sense_of is) refl refl refl
  nothing_more (inr (inr (inl (n, r, is)))) = nothing-more _ (ap sense_of is) refl refl refl
  nothing_more (inr (inr (inr (inl (n, t, is))))) = nothing-more _ (ap sense_of is) refl refl refl
  nothing_more (inr (inr (inr (inr (n, t, is))))) = nothing-more _ (ap sense_of is) refl refl refl
