-- The statements of the office can be written as lines, and fail no clause.
use Rattle.policy_core.proofs.Prelude.{List, ◌≡◌, ℕ, ap, sym, subst, [], ◌∙◌, arith, length, ◌<◌, ◌∷◌, refl, get_or, suc, true, Some, zero, None, Option, ◌+◌, ◌≤◌, Bool, ◌||◌, not, IsTrue, if◌then◌else◌, ◌&&◌, nat_lt, ltb-true, All-contains, AllPass-from_list_all, AllByRecursion, list_all, option_map_or, IsSomeAnd, codes, ◌==◌, bytes_eq, NoLine, root, is_known, is_declared, is_not_listed_once, is_one_too_many, version_of, is_orphan, has_limit, is_placed, IsCyclic, IsDescendant, IsTooDeep, NamesLead, ListsChild, Name, node_name, before, leaf_classes, listed, Entry, Sense, node, class, unset, IsName, IsValid, AreValidAttributes, IsValidCondition, Attrs, Condition, Dest, Dport, Dscp, Proto, office_lines, backup_network, exactly, of_prio, of_weight, office_statements, tcp, udp, OfficeIsAccepted}
use Rattle.policy_text_defs.specs.declared.condition.FieldName.{FieldName}
use Rattle.policy_text_defs.specs.Ranges.{field_most}
use Rattle.policy_text_defs.specs.declared.edition.Edition.{Edition}
use Rattle.policy_text_defs.specs.declared.edition.Edition.TheVariants.{Classic, Third}
use Rattle.policy_text_defs.specs.Settings.{no_queueing}
use Rattle.policy_text_defs.specs.Sense.{leaf}
use Rattle.policy_text_defs.specs.Statements.{IsVersion}
use Rattle.policy_text_defs.specs.Valid.{HasParts, IsValidIn, AreValidLimits}
use Rattle.policy_text_defs.specs.EditionNames.{has_names}
use Rattle.policy_text_defs.specs.Editions.{is_of}
use Rattle.policy_text_defs.proofs.TokenLaws.{both_true}
use Rattle.policy_rules.specs.Names.{children}

-- ---- each statement can be written
no-attribute : AreValidAttributes unset
no-attribute = record { prio = tt; weight = tt; slack = tt }

no-limits : AreValidLimits no_queueing
no-limits = record { packets = tt; bytes = tt; per_flow = tt }

a-weight : (n : ℕ) → 1 ≤ n → n ≤ 65535 → AreValidAttributes (of_weight (Some n))
a-weight n above below = record { prio = tt; weight = record { above = above; below = below }; slack = tt }

a-prio : (n : ℕ) → n ≤ 65535 → AreValidAttributes (of_prio (Some n))
a-prio n below = record { prio = record { above = omega arith; below = below }; weight = tt; slack = tt }

a-field : (f : FieldName) (n : ℕ) → n ≤ field_most f → IsValidCondition (exactly f n)
a-field f n below = record { ordered = omega arith; below = below }

a-class : (n : Name) (cs : List Condition) → IsName n → AllByRecursion IsValidCondition cs → IsValid (class n unset cs)
a-class n cs name conditions = (name, no-attribute, conditions)

a-leaf : (n u : Name) (a : Attrs) → IsName n → IsName u → AreValidAttributes a → IsValid (leaf n u a no_queueing (n ∷ []))
a-leaf n u a name used attributes = (name, used, attributes, no-limits, record { some = omega arith; each = (name, tt) })

a-node : (n u : Name) (a : Attrs) (ns : List Name) → IsName n → IsName u → AreValidAttributes a → 0 < length ns → AllByRecursion IsName ns → IsValid (node n u a no_queueing ns)
a-node n u a ns name used attributes some each = (name, used, attributes, no-limits, record { some = some; each = each })

a-version : IsVersion Classic 1
a-version = record { above = omega arith; below = omega arith }

-- one more
infixr 5 ◌&◌
◌&◌ : {A B : Type 0} → A → B → A × B
a & b = (a, b)

-- their parts are valid in each edition that has version 1
in-edition : (e : Edition) → IsVersion e 1 → AllByRecursion (HasParts e) office_statements
in-edition e first =
    first &
    a-class (codes "voice") (exactly Dscp 46 ∷ []) refl (a-field Dscp 46 (omega arith), tt) &
    a-class (codes "video") (exactly Dscp 34 ∷ []) refl (a-field Dscp 34 (omega arith), tt) &
    a-class (codes "ssh") (tcp ∷ exactly Dport 22 ∷ []) refl (a-field Proto 6 (omega arith) & a-field Dport 22 (omega arith) & tt) &
    a-class (codes "dns") (udp ∷ exactly Dport 53 ∷ []) refl (a-field Proto 17 (omega arith) & a-field Dport 53 (omega arith) & tt) &
    a-class (codes "web") (tcp ∷ exactly Dport 443 ∷ []) refl (a-field Proto 6 (omega arith) & a-field Dport 443 (omega arith) & tt) &
    a-class (codes "mail") (tcp ∷ exactly Dport 25 ∷ []) refl (a-field Proto 6 (omega arith) & a-field Dport 25 (omega arith) & tt) &
    a-class (codes "backup") (Dest backup_network 16 ∷ []) refl (record { address = omega arith; prefix = omega arith }, tt) &
    a-class (codes "other") [] refl tt &
    a-leaf (codes "voice") (codes "fifo") (of_weight (Some 4)) refl refl (a-weight 4 (omega arith) (omega arith)) &
    a-leaf (codes "video") (codes "fifo") (of_weight (Some 2)) refl refl (a-weight 2 (omega arith) (omega arith)) &
    a-leaf (codes "ssh") (codes "fifo") unset refl refl no-attribute &
    a-leaf (codes "dns") (codes "fifo") unset refl refl no-attribute &
    a-leaf (codes "web") (codes "stfq") (of_weight (Some 4)) refl refl (a-weight 4 (omega arith) (omega arith)) &
    a-leaf (codes "mail") (codes "fifo") (of_weight (Some 2)) refl refl (a-weight 2 (omega arith) (omega arith)) &
    a-leaf (codes "backup") (codes "fifo") unset refl refl no-attribute &
    a-leaf (codes "other") (codes "fifo") unset refl refl no-attribute &
    a-node (codes "urgent") (codes "stfq") (of_prio (Some 0)) (codes "voice" ∷ codes "video" ∷ codes "ssh" ∷ codes "dns" ∷ []) refl refl (a-prio 0 (omega arith)) (omega arith) (refl & refl & refl & refl & tt) &
    a-node (codes "normal") (codes "stfq") (of_prio (Some 1)) (codes "web" ∷ codes "mail" ∷ codes "backup" ∷ codes "other" ∷ []) refl refl (a-prio 1 (omega arith)) (omega arith) (refl & refl & refl & refl & tt) &
    a-node (codes "root") (codes "strict") unset (codes "urgent" ∷ codes "normal" ∷ []) refl refl no-attribute (omega arith) (refl & refl & tt) & tt

with-names : (e : Edition) (ss : List Sense) → AllByRecursion (HasParts e) ss → list_all (has_names e) ss ≡ true → list_all (is_of e) ss ≡ true → AllByRecursion (IsValidIn e) ss
with-names e [] all named own = tt
with-names e (s ∷ ss) all named own =
    let names = both_true (has_names e s) (list_all (has_names e) ss) named in
    let kinds = both_true (is_of e s) (list_all (is_of e) ss) own in
    ((all.0, names.0, kinds.0), with-names e ss all.1 names.1 kinds.1)

pub office-classic : AllByRecursion (IsValidIn Classic) office_statements
office-classic = with-names Classic office_statements (in-edition Classic a-version) refl refl

pub office-valid : AllByRecursion IsValid office_statements
office-valid = in-edition Third (record { above = omega arith; below = omega arith })

-- ---- clauses that are tests
no-line : (fails : Entry → Bool) (es : List Entry) → list_all (λ e. not (fails e)) es ≡ true → NoLine (λ e. IsTrue (fails e)) es
no-line fails es all = λ k d within here. (let passes : not (fails (get_or es k d)) ≡ true = AllPass-from_list_all (λ e. not (fails e)) es all k d within in cc)

-- ---- children are on a lower level than their node
abbrev is_above : (Name → ℕ) → Sense → Bool
is_above level s = option_map_or (λ a. list_all (λ b. nat_lt (level b) (level a)) (children s)) (node_name s) true

abbrev Falls : (Name → ℕ) → List Entry → Type 0
Falls level es = (a b : Name) → ListsChild es a b → level b < level a

falls : (level : Name → ℕ) (es : List Entry) → list_all (λ e. is_above level e.1) es ≡ true → Falls level es
falls level es all = λ a b lister. below a b lister
  where
    below : (a b : Name) → ListsChild es a b → level b < level a
    below a b (k, e, within, is, (named, lists)) =
        let above : is_above level e.1 ≡ true = subst (λ (f : Entry). is_above level f.1 ≡ true) is (AllPass-from_list_all (λ f. is_above level f.1) es all k e within) in
        let each : list_all (λ c. nat_lt (level c) (level a)) (children e.1) ≡ true = ap (λ o. option_map_or (λ c. list_all (λ d. nat_lt (level d) (level c)) (children e.1)) o true) (sym named) ∙ above in
        let here : nat_lt (level b) (level a) ≡ true = All-contains (λ c. nat_lt (level c) (level a) ≡ true) (children e.1) b (AllPass-from_list_all (λ c. nat_lt (level c) (level a)) (children e.1) each) lists in
        ltb-true (level b) (level a) here

descends : (level : Name → ℕ) (es : List Entry) → Falls level es → (k : ℕ) (a b : Name) → NamesLead es k a b → level b + k ≤ level a
descends level es fall zero a b is = omega (arith, ap level is)
descends level es fall (suc k) a b (m, lists, on) = omega (arith, fall a m lists, descends level es fall k m b on)

some-and : {X : Type 0} (P : X → Type 0) (o : Option X) → IsSomeAnd o P → (x : X) × P x
some-and P None h = absurd h
some-and P (Some x) h = (x, h)

no-cycle : (level : Name → ℕ) (es : List Entry) → Falls level es → NoLine (IsCyclic es) es
no-cycle level es fall = λ k d within cyclic.
    let found = some-and (λ a. IsDescendant es a a) (node_name (get_or es k d).1) cyclic in
    let below : level found.0 + suc found.1.0 ≤ level found.0 = descends level es fall (suc found.1.0) found.0 found.0 found.1.1 in
    omega (arith, below)

not-deep : (level : Name → ℕ) (es : List Entry) → Falls level es → level root ≤ 64 → NoLine (IsTooDeep es) es
not-deep level es fall low = λ k d within deep.
    let found = some-and (λ a. (n : ℕ) × (64 < n) × NamesLead es n root a) (node_name (get_or es k d).1) deep in
    omega (arith, low, found.1.1, descends level es fall found.1.0 root found.0 found.1.2)

-- the root, the two groups, and the leaves
abbrev level : Name → ℕ
level a = if bytes_eq a root then 2 else if bytes_eq a (codes "urgent") || bytes_eq a (codes "normal") then 1 else 0

office-falls : Falls level office_lines
office-falls = falls level office_lines refl

pub office-accepted : OfficeIsAccepted
office-accepted =
    let es = office_lines in
    let placed = no-line (λ e. not (is_placed (before e.0 es) e.1)) es refl in
    let new = no-line (λ e. is_declared (before e.0 es) e.1) es refl in
    let known = no-line (λ e. not (is_known es (before e.0 es) e.1)) es refl in
    let few = no-line (λ e. is_one_too_many (before e.0 es) e.1) es refl in
    let parents = no-line (λ e. is_orphan (listed children es) e.1) es refl in
    let shallow = not-deep level es office-falls (omega arith) in
    let leaves = no-line (λ e. is_not_listed_once (listed leaf_classes es) e.1) es refl in
    let old = no-line (λ e. version_of es == 1 && has_limit e.1) es refl in
    (((((((((((placed, new), known), few), tt), parents), refl), no-cycle level es office-falls), shallow), leaves), refl), old)
