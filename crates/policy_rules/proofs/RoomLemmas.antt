-- The room that is left after one more statement.
use Rattle.policy_rules.proofs.Prelude.{◌∙◌, ap, List, ◌≡◌, sym, ℕ, [], ◌∷◌, refl, ◌++◌, false, Bool, length, subst, true, Some, ◌+◌, arith, None, Option, cond, filter, length-append, filter-append, cons_option, Entry, Sense, is_transaction, open_body, is_assignment, most_variables, assignments_in, most_assignments, IsRoom, open_variables, Name, declared, node_name, variable_name, class_name, transaction_name}
use Rattle.policy_text_defs.specs.Sense.{entry}
use Rattle.policy_rules.proofs.Lines.{declared-push}
use Rattle.policy_rules.proofs.OpenBodies.{open_body-line, open_body-opened}
use Rattle.policy_rules.specs.declared.room.Room.{Room}
use Rattle.policy_rules.proofs.OpenVariables.{open_variables-line}

-- the number of names in an option
abbrev pub size : Option Name → ℕ
size None = 0
size (Some n) = 1

length-one : (o : Option Name) → length (cons_option o []) ≡ size o
length-one None = refl
length-one (Some n) = refl

-- the room for one space
space-room : (space : Sense → Option Name) (earlier : List Entry) (e : Entry) (left left' most : ℕ) → length (declared space earlier) + left ≡ most → left' + size (space e.1) ≡ left
    → length (declared space (earlier ++ e ∷ [])) + left' ≡ most
space-room space earlier e left left' most are taken =
    let grown : length (declared space (earlier ++ e ∷ [])) ≡ length (declared space earlier) + size (space e.1) =
    ap length (declared-push space earlier e) ∙ length-append (declared space earlier) (declared space (e ∷ [])) ∙ ap (λ n. length (declared space earlier) + n) (length-one (space e.1)) in
    omega (arith, grown, are, taken)

variable-room : (earlier : List Entry) (e : Entry) (left left' most : ℕ) → is_transaction e ≡ false → length (open_variables earlier) + left ≡ most → left' + size (variable_name e.1) ≡ left → length (open_variables (earlier ++ e ∷ [])) + left' ≡ most
variable-room earlier e left left' most other are taken =
    let grown : length (open_variables (earlier ++ e ∷ [])) ≡ length (open_variables earlier) + size (variable_name e.1) =
    ap length (open_variables-line earlier e other) ∙ length-append (open_variables earlier) (cons_option (variable_name e.1) []) ∙ ap (λ n. length (open_variables earlier) + n) (length-one (variable_name e.1)) in
    omega (arith, grown, are, taken)

assignment-room : (earlier : List Entry) (e : Entry) (left left' most : ℕ) → is_transaction e ≡ false → assignments_in (open_body earlier) + left ≡ most → left' + cond (is_assignment e.1) 1 0 ≡ left → assignments_in (open_body (earlier ++ e ∷ [])) + left' ≡ most
assignment-room earlier e left left' most other are taken =
    let grown : assignments_in (open_body (earlier ++ e ∷ [])) ≡ assignments_in (open_body earlier) + cond (is_assignment e.1) 1 0 =
    ap assignments_in (open_body-line earlier e other) ∙ ap length (filter-append (λ k. is_assignment k.1) (open_body earlier) (e ∷ []))
    ∙ length-append (filter (λ k. is_assignment k.1) (open_body earlier)) (filter (λ k. is_assignment k.1) (e ∷ [])) ∙ ap (λ n. assignments_in (open_body earlier) + n) (one (is_assignment e.1)) in
    omega (arith, grown, are, taken)
  where
    one : (b : Bool) → length (cond b (e ∷ []) []) ≡ cond b 1 0
    one true = refl
    one false = refl

module _ (earlier : List Entry) (line : ℕ) (s form : Sense) (is : s ≡ form) {left left' : Room} (room : IsRoom earlier left) where
  -- a statement that doesn't begin a transaction takes the room it needs
  pub room_for : is_transaction (entry line form) ≡ false → left'.classes + size (class_name form) ≡ left.classes → left'.nodes + size (node_name form) ≡ left.nodes → left'.transactions + size (transaction_name form) ≡ left.transactions → left'.variables + size (variable_name form) ≡ left.variables
      → left'.assignments + cond (is_assignment form) 1 0 ≡ left.assignments → IsRoom (earlier ++ entry line s ∷ []) left'
  room_for other of_classes of_nodes of_transactions of_variables of_assignments = subst (λ (f : Sense). IsRoom (earlier ++ entry line f ∷ []) left') (sym is) (record {
    for_classes = space-room class_name earlier (entry line form) left.classes left'.classes _ room.for_classes of_classes;
    for_nodes = space-room node_name earlier (entry line form) left.nodes left'.nodes _ room.for_nodes of_nodes;
    for_transactions = space-room transaction_name earlier (entry line form) left.transactions left'.transactions _ room.for_transactions of_transactions;
    for_variables = variable-room earlier (entry line form) left.variables left'.variables _ other room.for_variables of_variables;
    for_assignments = assignment-room earlier (entry line form) left.assignments left'.assignments _ other room.for_assignments of_assignments;
  })

  -- a transaction begins with all of its own room
  pub room_opened : is_transaction (entry line form) ≡ true → left'.classes + size (class_name form) ≡ left.classes → left'.nodes + size (node_name form) ≡ left.nodes → left'.transactions + size (transaction_name form) ≡ left.transactions
      → left'.variables ≡ most_variables → left'.assignments ≡ most_assignments → IsRoom (earlier ++ entry line s ∷ []) left'
  room_opened opens of_classes of_nodes of_transactions all_variables all_assignments = subst (λ (f : Sense). IsRoom (earlier ++ entry line f ∷ []) left') (sym is) (record {
    for_classes = space-room class_name earlier (entry line form) left.classes left'.classes _ room.for_classes of_classes;
    for_nodes = space-room node_name earlier (entry line form) left.nodes left'.nodes _ room.for_nodes of_nodes;
    for_transactions = space-room transaction_name earlier (entry line form) left.transactions left'.transactions _ room.for_transactions of_transactions;
    for_variables = ap (λ b. length (declared variable_name b) + left'.variables) (open_body-opened earlier (entry line form) opens) ∙ ap (λ n. length (declared variable_name []) + n) all_variables;
    for_assignments = ap (λ b. assignments_in b + left'.assignments) (open_body-opened earlier (entry line form) opens) ∙ ap (λ n. assignments_in [] + n) all_assignments;
  })
