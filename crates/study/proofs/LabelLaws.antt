-- Labels of leaves and classes, one by one.
use Rattle.study.proofs.Prelude.{ap, ◌∙◌, ◌≡◌, refl, List, ℕ, Option, None, Some, sym, ◌∷◌, [], ◌++◌, map, arith, length, take, ◌+◌, Bool, append-nil, false, get_or, true, ◌<◌, ◌≤◌, append_assoc, suc, zero, IsSomeAnd, number_at, Policy, Node, node_at, Label, Tree, Address, LeadsBelow, LeadsToLeaf, Trees, inner, leaf, more, nodes, none, leaf_index, class_labels, held_labels, leaf_labels, leaf_table, class_label, is_leaf_at, is_leaf_below, label_of, leaf_label}
use Rattle.std.specs.List.{AllByRecursion}
use Rattle.std.proofs.lemmas.List.{length-append, take_more}
use Rattle.std.proofs.lemmas.Bool.{cond-true, cond-false}
use Rattle.policy_defs.specs.Policy.{Class as Aimed}
use Rattle.policy_core.specs.Numbering.{address_at, HasAt}
use Rattle.policy_core.specs.Parts.{told, class_in}
use Rattle.policy_core.specs.declared.parts.Marks.{Marks}
use Rattle.policy_core.specs.declared.parts.Class.{Class}
use Rattle.policy_core.proofs.NumberedAddresses.{address-undone}
use Rattle.policy_text_defs.specs.declared.statement.Statement.TheVariants as statement
use Rattle.policy_text.specs.Entries.{Numbered, entry_of}

-- ---- a leaf at an address
mutual
  leaf_is : (t : Tree Node) (a : Address) → LeadsToLeaf t a → is_leaf_at t a ≡ true
  leaf_is (leaf n) [] there = refl
  leaf_is (leaf n) (i ∷ a) there = absurd there
  leaf_is (inner n ts) [] there = absurd there
  leaf_is (inner n ts) (i ∷ a) there = leaf_is_below ts i a there

  leaf_is_below : (ts : Trees Node) (i : ℕ) (a : Address) → LeadsBelow ts i a → is_leaf_below ts i a ≡ true
  leaf_is_below none i a there = absurd there
  leaf_is_below (more t ts) zero a there = leaf_is t a there
  leaf_is_below (more t ts) (suc i) a there = leaf_is_below ts i a there

mutual
  leaf_is_not : (t : Tree Node) (a : Address) → (LeadsToLeaf t a → ⊥) → is_leaf_at t a ≡ false
  leaf_is_not (leaf n) [] none_there = absurd (none_there tt)
  leaf_is_not (leaf n) (i ∷ a) none_there = refl
  leaf_is_not (inner n ts) [] none_there = refl
  leaf_is_not (inner n ts) (i ∷ a) none_there = leaf_is_not_below ts i a none_there

  leaf_is_not_below : (ts : Trees Node) (i : ℕ) (a : Address) → (LeadsBelow ts i a → ⊥) → is_leaf_below ts i a ≡ false
  leaf_is_not_below none i a none_there = refl
  leaf_is_not_below (more t ts) zero a none_there = leaf_is_not t a none_there
  leaf_is_not_below (more t ts) (suc i) a none_there = leaf_is_not_below ts i a none_there

-- ---- one label
label_is : (o : Option Node) (name : List ℕ) (m : Marks) → IsSomeAnd o (λ n. name ≡ n.name) → IsSomeAnd o (λ n. told m ≡ n.marks)
    → label_of o ≡ record { name = name; weight = m.weight } ∷ []
label_is None name m named marked = absurd named
label_is (Some n) name m named marked = ap (λ (l : Label). l ∷ []) (λ i. record { name = sym named i; weight = (sym marked i).weight })

pub one_leaf_label : (tree : Tree Node) (n : ℕ) (name : List ℕ) (m : Marks) → LeadsToLeaf tree (address_at tree n) → HasAt tree n (λ d. name ≡ d.name) → HasAt tree n (λ d. told m ≡ d.marks)
    → record { name = name; weight = m.weight } ∷ [] ≡ leaf_label tree n
one_leaf_label tree n name m there named marked =
    sym (cond-true (is_leaf_at tree (address_at tree n)) (label_of (node_at tree (address_at tree n))) [] (leaf_is tree (address_at tree n) there)
    ∙ label_is (node_at tree (address_at tree n)) name m named marked)

pub no_leaf_label : (tree : Tree Node) (n : ℕ) → (LeadsToLeaf tree (address_at tree n) → ⊥) → leaf_label tree n ≡ []
no_leaf_label tree n none_there = cond-false (is_leaf_at tree (address_at tree n)) (label_of (node_at tree (address_at tree n))) [] (leaf_is_not tree (address_at tree n) none_there)

-- ---- few labels
few_of : (o : Option Node) → length (label_of o) ≤ 1
few_of None = omega arith
few_of (Some n) = omega arith

few_label : (tree : Tree Node) (n : ℕ) → length (leaf_label tree n) ≤ 1
few_label tree n = by_test (is_leaf_at tree (address_at tree n)) refl
  where
    by_test : (b : Bool) → is_leaf_at tree (address_at tree n) ≡ b → length (leaf_label tree n) ≤ 1
    by_test true e = rw e (few_of (node_at tree (address_at tree n)))
    by_test false e = rw e (omega arith)

pub few_labels : (tree : Tree Node) (n : ℕ) → length (leaf_labels tree n) ≤ n
few_labels tree zero = omega arith
few_labels tree (suc n) = omega (arith, length-append (leaf_labels tree n) (leaf_label tree n), few_labels tree n, few_label tree n)

-- ---- the leaves of classes
number_of_leaf : (tree : Tree Node) (n : ℕ) → n < nodes tree → number_at tree (address_at tree n) ≡ n
number_of_leaf tree n less = (address-undone tree n less).number

indices : (tree : Tree Node) (cs : List Class) → AllByRecursion (λ c. c.leaf < nodes tree) cs
    → map (λ c. leaf_index tree c.leaf) cs ≡ map (λ (c : Aimed). leaf_index tree (number_at tree c.leaf)) (map (class_in tree) cs)
indices tree [] within = refl
indices tree (c ∷ cs) within =
    ap (λ n. leaf_index tree n ∷ map (λ (d : Class). leaf_index tree d.leaf) cs) (sym (number_of_leaf tree c.leaf within.0))
    ∙ ap (λ ns. leaf_index tree (number_at tree (address_at tree c.leaf)) ∷ ns) (indices tree cs within.1)

pub table_of_classes : (policy : Policy) (cs : List Class) → AllByRecursion (λ c. c.leaf < nodes policy.tree) cs → map (class_in policy.tree) cs ≡ policy.classes
    → map (λ c. leaf_index policy.tree c.leaf) cs ≡ leaf_table policy
table_of_classes policy cs within are = indices policy.tree cs within ∙ ap (λ (ds : List Aimed). map (λ (c : Aimed). leaf_index policy.tree (number_at policy.tree c.leaf)) ds) are

-- ---- the labels of classes
held_labels-append : (ls ms : List Numbered) → held_labels (ls ++ ms) ≡ held_labels ls ++ held_labels ms
held_labels-append [] ms = refl
held_labels-append (l ∷ ls) ms = ap (λ xs. class_label l.1 ++ xs) (held_labels-append ls ms) ∙ sym (append_assoc (class_label l.1) (held_labels ls) (held_labels ms))

pub one_more_class : (ls : List Numbered) (i : ℕ) (l : Numbered) (old new : List Label) → i < length ls → l ≡ get_or ls i l → old ≡ held_labels (take i ls) → new ≡ old ++ class_label l.1
    → new ≡ held_labels (take (i + 1) ls)
one_more_class ls i l old new within is so_far put =
    put ∙ ap (λ xs. xs ++ class_label l.1) so_far
    ∙ ap (λ xs. held_labels (take i ls) ++ xs) (sym (append-nil (class_label l.1)))
    ∙ sym (held_labels-append (take i ls) (l ∷ []))
    ∙ ap (λ (m : Numbered). held_labels (take i ls ++ m ∷ [])) is
    ∙ ap held_labels (sym (take_more ls i l within))

held_label : (l : Numbered) (ls : List Numbered) → class_label l.1 ++ class_labels (map entry_of ls) ≡ class_labels (entry_of l ∷ map entry_of ls)
held_label (n, statement.Version v) ls = refl
held_label (n, statement.Transaction t) ls = refl
held_label (n, statement.Keep t s) ls = refl
held_label (n, statement.Each t s) ls = refl
held_label (n, statement.Push t s) ls = refl
held_label (n, statement.Pop t s) ls = refl
held_label (n, statement.Class t a cs) ls = refl
held_label (n, statement.Filter t a ts) ls = refl
held_label (n, statement.Leaf t u a m ns) ls = refl
held_label (n, statement.Node t u a q ns) ls = refl

pub held_labels_are : (ls : List Numbered) → held_labels ls ≡ class_labels (map entry_of ls)
held_labels_are [] = refl
held_labels_are (l ∷ ls) = ap (λ xs. class_label l.1 ++ xs) (held_labels_are ls) ∙ held_label l ls
